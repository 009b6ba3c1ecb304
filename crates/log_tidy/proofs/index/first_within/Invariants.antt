-- None of the entries so far is of a clause within this one.
use Rattle.log_tidy.proofs.Common.{take, standing, AreNone}
use Rattle.log_tidy.proofs.index.first_within.Given as goal

abbrev pub invariant-loop-entry : goal.invariant-loop-entry
invariant-loop-entry l = AreNone (standing l.clauses l.steps) (take l.entry-index l.entries) l.signature l.clause
