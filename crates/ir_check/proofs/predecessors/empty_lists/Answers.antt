use Rattle.ir_check.proofs.Common.{[], replicate_more}
use Rattle.ir_check.proofs.predecessors.empty_lists.Goals as goal

pub loop-list-preserved : goal.loop-list-preserved
loop-list-preserved c = rw (c.in_ok-push.ensures.ok, c.from_vec.ensures, c.new-in-loop-list.ensures.items, c.loop-list.invariant) (replicate_more c.loop-list._list [])
