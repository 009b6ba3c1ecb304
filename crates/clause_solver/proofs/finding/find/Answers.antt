use Rattle.std.proofs.Common.{ℕ, List, sym, subst}
use Rattle.clause_lits.specs.declared.lit.Lit.{Lit}
use Rattle.clause_search.specs.Searching.{standing}
use Rattle.clause_search.specs.Findings.{AreOpen}
use Rattle.clause_search.proofs.Findings.{found-round, length-standing}
use Rattle.clause_solver.proofs.finding.find.Goals as goal

pub returns-in-Nothing : goal.returns-in-Nothing
returns-in-Nothing c =
    let all : List (List Lit) = standing c.args.clauses.now c.args.log.now in
    let late = subst (λ (k : ℕ). AreOpen all c.args.trail.now c.min-first.result k) (sym (length-standing c.args.clauses.now c.args.log.now)) c.in-Nothing.ensures in
    found-round all c.args.trail.now c.min-first.result c.find_between-in-Nothing.result late c.find_between-in-Nothing.ensures
