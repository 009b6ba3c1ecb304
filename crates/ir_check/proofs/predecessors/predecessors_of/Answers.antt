use Rattle.ir_check.proofs.Common.{◌∙◌, length, take, refl, slice_get_read}
use Rattle.ir_check.proofs.PredecessorLemmas.{taken, leads_more, targets_numbered}
use Rattle.ir_check.proofs.predecessors.predecessors_of.Goals as goal

pub add_predecessor-requires : goal.add_predecessor-requires
add_predecessor-requires c = record {
  within = targets_numbered c.args.f.now c.loop-block.block-index c.block-item.result c.as_slice.result.now (length c.loop-block.table) c.requires.numbered
      (slice_get_read c.args.f.now.blocks (length c.args.f.now.blocks) c.loop-block.block-index c.block-item.result refl (rw c.as_slice-block-items.ensures at c.loop-block-test.true) (rw c.as_slice-block-items.ensures at c.block-item.is))
      (c.as_slice.ensures ∙ c.in_ok-targets.ensures) c.loop-block.invariant.len;
}

pub loop-block-preserved : goal.loop-block-preserved
loop-block-preserved c = record {
  len = c.in_ok-add_predecessor.ensures.len ∙ c.loop-block.invariant.len;
  each = rw (taken c.args.f.now.blocks c.loop-block.block-index c.block-item.result (rw c.as_slice-block-items.ensures at c.loop-block-test.true) (rw c.as_slice-block-items.ensures at c.block-item.is))
      (leads_more (take c.loop-block.block-index c.args.f.now.blocks) c.block-item.result c.loop-block.table c.add_predecessor.new.table c.as_slice.result.now c.loop-block.invariant.each
      (c.as_slice.ensures ∙ c.in_ok-targets.ensures) (record { long = c.in_ok-add_predecessor.ensures.len; each = c.in_ok-add_predecessor.ensures.added }));
}
