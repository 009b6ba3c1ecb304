use Rattle.ir_check.proofs.Common.{◌≡◌, [], replicate}
use Rattle.ir_check.proofs.predecessors.empty_lists.Given as goal

abbrev pub invariant-loop-list : goal.invariant-loop-list
invariant-loop-list l = l.lists ≡ replicate l._list []
