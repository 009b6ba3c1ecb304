use Rattle.std.proofs.Common.{arith}
use Rattle.pair_costs.proofs.CostSizes.{small_insts, whole_cost}
use Rattle.pair_costs.proofs.Sizes.{sum_room}
use Rattle.pair_costs.proofs.function_costs.cost_of_insts.Goals as goal

pub overflow_add-total-in-loop-inst : goal.overflow_add-total-in-loop-inst
overflow_add-total-in-loop-inst c =
    let insts = c.args.insts.now in
    let f = c.args.trees.now.f.now in
    let room = sum_room (whole_cost f c.args.memory) insts c.loop-inst.inst-index c.inst-item.result c.loop-inst.total c.loop-inst-test.true c.inst-item.is c.loop-inst.invariant in
    let most = small_insts f c.requires.trees.few c.requires.trees.limits c.args.memory insts c.requires.memory c.requires.types in
    let few = c.requires.few in
    omega (arith, room, most, few)
