use Rattle.memory_access.proofs.Common.{sym, ◌∙◌}
use Rattle.memory_access.proofs.Sums.{leaves-at_base, leaves-here, leaves-later, leaves-never}
use Rattle.memory_access.proofs.offsets.leaves.Goals as goal

pub returns-then-size-offset : goal.returns-then-size-offset
returns-then-size-offset c = sym (leaves-at_base c.args.size c.args.offset c.args.indices.now c.if-size-offset.true)

pub returns-in-None : goal.returns-in-None
returns-in-None c = sym (c.loop-index.invariant.same ∙ leaves-here c.args.size c.loop-index.sum c.args.indices.now c.loop-index.index-index c.index-item.result c.loop-index-test.true c.index-item.is c.loop-index.invariant.inside c.in-None.ensures)

pub loop-index-preserved : goal.loop-index-preserved
loop-index-preserved c = record {
  same = c.loop-index.invariant.same ∙ leaves-later c.args.size c.loop-index.sum c.in-Some.next c.args.indices.now c.loop-index.index-index c.index-item.result c.loop-index-test.true c.index-item.is c.loop-index.invariant.inside c.in-Some.ensures.1;
  inside = c.in-Some.ensures.0;
}

pub returns : goal.returns
returns c = sym (c.loop-index.invariant.same ∙ leaves-never c.args.size c.loop-index.sum c.args.indices.now c.loop-index.index-index c.loop-index-test.false c.loop-index.invariant.inside)
