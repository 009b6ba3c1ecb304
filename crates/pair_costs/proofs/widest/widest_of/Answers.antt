use Rattle.std.proofs.Common.{◌≡◌, ◌<◌, length, get_or, arith}
use Rattle.std.specs.List.{flat_map}
use Rattle.points.specs.Tapes.{block_widths}
use Rattle.pair_costs.proofs.Sizes.{widest_at, widest_end, widest_positive}
use Rattle.pair_costs.proofs.widest.widest_of.Goals as goal

pub loop-block-init : goal.loop-block-init
loop-block-init c = record { blocks = c.as_slice-block-items.ensures; rest = (let low = widest_positive (flat_map block_widths c.args.f.now.blocks) in omega (arith, low, c.of-best.ensures)) }

pub loop-block-preserved : goal.loop-block-preserved
loop-block-preserved c =
    let blocks = c.args.f.now.blocks in
    let below : c.loop-block.block-index < length blocks = rw (← c.loop-block.invariant.blocks) c.loop-block-test.true in
    let is : c.block-item.result ≡ get_or blocks c.loop-block.block-index c.block-item.result = rw (← c.loop-block.invariant.blocks) c.block-item.is in
    let more = widest_at block_widths blocks c.loop-block.block-index c.block-item.result below is in
    record { blocks = c.loop-block.invariant.blocks; rest = (let wider = c.widest_in_block-best.ensures in omega (arith, more, wider, c.loop-block.invariant.rest)) }

pub returns : goal.returns
returns c =
    let blocks = c.args.f.now.blocks in
    let end : c.loop-block.block-index ≡ length blocks = rw (← c.loop-block.invariant.blocks) (omega arith) in
    let one = widest_end block_widths blocks c.loop-block.block-index end in
    omega (arith, one, c.loop-block.invariant.rest, c.loop-block.best.at_least_1)
