use Rattle.std.proofs.Common.{◌≡◌, ◌+◌, sum_by, drop}
use Rattle.verdicts.specs.Weight.{phi_cost}
use Rattle.pair_costs.proofs.function_costs.cost_of_phis.Given as goal

abbrev pub invariant-loop-phi : goal.invariant-loop-phi
invariant-loop-phi l = l.total + sum_by phi_cost (drop l.phi-index l.phis) ≡ sum_by phi_cost l.phis
