use Rattle.ir_check.proofs.Common.{◌∙◌, take, length, get_or, length-set, ap, arith, take_all, take_more, length-replicate, Stranger}
use Rattle.ir_check.proofs.EdgeLemmas.{strangers, awaited_more}
use Rattle.ir_check.proofs.edges.await_all.Goals as goal

pub loop-label-init : goal.loop-label-init
loop-label-init c = record {
  marks = ap length c.clear.ensures ∙ length-replicate (length c.args.marks.now) Stranger;
  marked = λ of_type. rw c.clear.ensures (strangers of_type (length c.args.marks.now));
}

pub set-requires : goal.set-requires
set-requires c = omega (arith, c.requires.within c.loop-label.label-index 0 c.loop-label-test.true, c.loop-label.invariant.marks)

pub loop-label-preserved : goal.loop-label-preserved
loop-label-preserved c = record {
  marks = ap length c.set.ensures ∙ (length-set c.loop-label.marks _ _ ∙ c.loop-label.invariant.marks);
  marked = λ of_type. rw (c.set.ensures, take_more c.args.predecessors.now c.loop-label.label-index 0 c.loop-label-test.true)
      (awaited_more of_type (take c.loop-label.label-index c.args.predecessors.now) (get_or c.args.predecessors.now c.loop-label.label-index 0) c.loop-label.marks
      (omega (arith, c.requires.within c.loop-label.label-index 0 c.loop-label-test.true, c.loop-label.invariant.marks)) (c.loop-label.invariant.marked of_type));
}

pub returns-clause-marked : goal.returns-clause-marked
returns-clause-marked c = rw (take_all c.loop-label.label-index c.args.predecessors.now c.loop-label-test.false) at c.loop-label.invariant.marked
