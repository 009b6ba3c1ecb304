use Rattle.std.proofs.Common.{◌≡◌, ◌<◌, length, get_or, arith}
use Rattle.verdicts.specs.Weight.{block_cost}
use Rattle.pair_costs.proofs.CostSizes.{small_cost_of}
use Rattle.pair_costs.proofs.Sizes.{sum_room, sum_done}
use Rattle.pair_costs.proofs.function_costs.cost_with.Goals as goal

pub overflow_add-total : goal.overflow_add-total
overflow_add-total c =
    let f = c.args.trees.now.f.now in
    let blocks = f.blocks in
    let below : c.loop-block.block-index < length blocks = rw (← c.loop-block.invariant.blocks) c.loop-block-test.true in
    let is : c.block-item.result ≡ get_or blocks c.loop-block.block-index c.block-item.result = rw (← c.loop-block.invariant.blocks) c.block-item.is in
    let room = sum_room (block_cost f c.args.memory) blocks c.loop-block.block-index c.block-item.result c.loop-block.total below is c.loop-block.invariant.total in
    let most = small_cost_of f c.requires.trees.few c.requires.trees.limits c.args.memory c.requires.memory in
    omega (arith, room, most, c.cost_of_block-total.ensures)

pub returns-clause-value : goal.returns-clause-value
returns-clause-value c =
    let f = c.args.trees.now.f.now in
    let blocks = f.blocks in
    let end : c.loop-block.block-index ≡ length blocks = rw (← c.loop-block.invariant.blocks) (omega arith) in
    sum_done (block_cost f c.args.memory) blocks c.loop-block.block-index c.loop-block.total end c.loop-block.invariant.total

pub returns-clause-most : goal.returns-clause-most
returns-clause-most c =
    let most = small_cost_of c.args.trees.now.f.now c.requires.trees.few c.requires.trees.limits c.args.memory c.requires.memory in
    omega (arith, most, c.loop-block.invariant.total)
