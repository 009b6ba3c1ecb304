-- The clauses so far are settled.
use Rattle.clause_search.specs.Searching.{standing}
use Rattle.clause_search.specs.Findings.{AreOpen}
use Rattle.clause_solver.proofs.finding.find_between.Given as goal

abbrev pub invariant-loop-place : goal.invariant-loop-place
invariant-loop-place l = AreOpen (standing l.clauses l.log) l.trail l.from l.place
