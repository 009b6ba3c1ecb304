use Rattle.register_slots.proofs.Common.{◌≡◌, ◌++◌, map, drop, phi_in}
use Rattle.register_slots.proofs.renaming.phis_in.Given as goal

abbrev pub invariant-loop-phi : goal.invariant-loop-phi
invariant-loop-phi l = l.renamed ++ map (phi_in l.slots) (drop l.phi-index l.phis) ≡ map (phi_in l.slots) l.phis
