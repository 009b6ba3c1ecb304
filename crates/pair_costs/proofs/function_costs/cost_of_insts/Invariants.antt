use Rattle.std.proofs.Common.{◌≡◌, ◌+◌, sum_by, drop}
use Rattle.pair_costs.proofs.CostSizes.{whole_cost}
use Rattle.pair_costs.proofs.function_costs.cost_of_insts.Given as goal

abbrev pub invariant-loop-inst : goal.invariant-loop-inst
invariant-loop-inst l = l.total + sum_by (whole_cost l.trees.f.now l.memory) (drop l.inst-index l.insts) ≡ sum_by (whole_cost l.trees.f.now l.memory) l.insts
