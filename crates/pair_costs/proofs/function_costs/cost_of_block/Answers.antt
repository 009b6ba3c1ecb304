use Rattle.std.proofs.Common.{sum_by, ap, ◌∙◌, arith}
use Rattle.std.proofs.lemmas.List.Elements.{recursion_from_All}
use Rattle.verdicts.specs.Weight.{phi_cost}
use Rattle.pair_costs.proofs.CostSizes.{small_insts, whole_cost}
use Rattle.pair_costs.proofs.Sizes.{small_phis, FewEntries}
use Rattle.pair_costs.proofs.function_costs.cost_of_block.Goals as goal

pub overflow_add-result : goal.overflow_add-result
overflow_add-result c =
    let f = c.args.trees.now.f.now in
    let few = c.requires.few in
    let small = small_insts f c.requires.trees.few c.requires.trees.limits c.args.memory c.args.block.now.insts c.requires.memory c.requires.objects in
    let insts = c.cost_of_insts-insts.ensures ∙ ap (λ insts. sum_by (whole_cost f c.args.memory) insts) c.as_slice.ensures in
    let end = c.cost_of_end.ensures.most in
    let tree = c.end_sampling_cost.ensures.most in
    omega (arith, few, small, insts, end, tree)

pub overflow_add-result-2 : goal.overflow_add-result-2
overflow_add-result-2 c =
    let f = c.args.trees.now.f.now in
    let few = c.requires.few in
    let small = small_insts f c.requires.trees.few c.requires.trees.limits c.args.memory c.args.block.now.insts c.requires.memory c.requires.objects in
    let insts = c.cost_of_insts-insts.ensures ∙ ap (λ insts. sum_by (whole_cost f c.args.memory) insts) c.as_slice.ensures in
    let end = c.cost_of_end.ensures.most in
    let tree = c.end_sampling_cost.ensures.most in
    let most = small_phis c.args.block.now.phis (recursion_from_All FewEntries c.args.block.now.phis c.requires.entries) in
    let phis = c.cost_of_phis.ensures ∙ ap (λ phis. sum_by phi_cost phis) c.as_slice-2.ensures in
    omega (arith, few, small, insts, end, tree, most, phis)
