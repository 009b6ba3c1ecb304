use Rattle.ir_check.proofs.Common.{take, get_or, take_all, take_more}
use Rattle.ir_check.proofs.PredecessorLemmas.{added_more}
use Rattle.ir_check.proofs.predecessors.add_predecessor.Goals as goal

pub loop-target-preserved : goal.loop-target-preserved
loop-target-preserved c =
    rw (take_more c.args.targets.now c.loop-target.target-index 0 c.loop-target-test.true)
    (added_more c.args.table.now c.loop-target.table c.args.label (take c.loop-target.target-index c.args.targets.now) (get_or c.args.targets.now c.loop-target.target-index 0) c.get_mut.result.now c.push_new.new.labels c.loop-target.invariant c.get_mut.ensures.value c.in_ok-push_new.ensures)

pub returns-clause-added : goal.returns-clause-added
returns-clause-added c = (rw (take_all c.loop-target.target-index c.args.targets.now c.loop-target-test.false) at c.loop-target.invariant).each
