use Rattle.choice_interp.proofs.Common.{◌≡◌, ◌++◌, drop, map, phi_value}
use Rattle.choice_interp.proofs.flow.take_phi_values.Given as goal

abbrev pub invariant-loop-phi : goal.invariant-loop-phi
invariant-loop-phi l = l.values ++ map (phi_value l.machine) (drop l.phi-index l.phis) ≡ map (phi_value l.machine) l.phis
