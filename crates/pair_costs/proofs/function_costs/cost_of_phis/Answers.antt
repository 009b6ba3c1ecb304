use Rattle.std.proofs.Common.{arith}
use Rattle.std.proofs.lemmas.List.Elements.{recursion_from_All}
use Rattle.verdicts.specs.Weight.{phi_cost}
use Rattle.pair_costs.proofs.Sizes.{sum_room, small_phis, FewEntries}
use Rattle.pair_costs.proofs.function_costs.cost_of_phis.Goals as goal

pub overflow_add-total : goal.overflow_add-total
overflow_add-total c =
    let phis = c.args.phis.now in
    let room = sum_room phi_cost phis c.loop-phi.phi-index c.phi-item.result c.loop-phi.total c.loop-phi-test.true c.phi-item.is c.loop-phi.invariant in
    let most = small_phis phis (recursion_from_All FewEntries phis c.requires.entries) in
    let few = c.requires.few in
    let here = c.cost_of_phi-total.ensures in
    omega (arith, room, most, few, here)
