use Rattle.clause_search.proofs.Common.{AreAssigned}
use Rattle.clause_search.proofs.assignment.next_variable.Given as goal

abbrev pub invariant-loop-index : goal.invariant-loop-index
invariant-loop-index l = AreAssigned l.trail l.index
