use Rattle.ir_tree.proofs.Common.{◌≡◌, drop, parameter_steps, with_parts}
use Rattle.ir_tree.proofs.sites.SiteList.parameters.Given as goal

abbrev pub invariant-loop-parameter : goal.invariant-loop-parameter
invariant-loop-parameter l = with_parts l.self (parameter_steps (drop l.parameter-index l.parameters)) ≡ with_parts l.fn.self (parameter_steps l.parameters)
