use Rattle.memory_access.proofs.Common.{◌+ℤ◌, pos, sym, ◌∙◌, scaled}
use Rattle.memory_access.proofs.Sums.{last_sum-more, last_sum-end, wrapped-below}
use Rattle.memory_access.proofs.offsets.offset_after.Goals as goal

pub loop-index-preserved : goal.loop-index-preserved
loop-index-preserved c = record {
  same = c.loop-index.invariant.same ∙ last_sum-more c.loop-index.sum c.moved_offset-sum.result c.args.indices.now c.loop-index.index-index c.index-item.result c.loop-index-test.true c.index-item.is c.moved_offset-sum.ensures;
  fits = rw c.moved_offset-sum.ensures (wrapped-below 64 (pos c.loop-index.sum +ℤ scaled c.index-item.result));
}

pub returns : goal.returns
returns c = sym (c.loop-index.invariant.same ∙ last_sum-end c.loop-index.sum c.args.indices.now c.loop-index.index-index c.loop-index-test.false c.loop-index.invariant.fits)
