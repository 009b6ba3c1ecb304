use Rattle.clause_search.proofs.Common.{TellsAll}
use Rattle.clause_search.proofs.assignment.values.Given as goal

abbrev pub invariant-loop-index : goal.invariant-loop-index
invariant-loop-index l = TellsAll l.index l.trail l.all
