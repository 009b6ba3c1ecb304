use Rattle.register_slots.proofs.Common.{◌≡◌, drop, map, Phi, holding}
use Rattle.register_slots.proofs.checking.hold_phis.Given as goal

abbrev pub invariant-loop-phi : goal.invariant-loop-phi
invariant-loop-phi l = holding l.slots (map (λ (phi : Phi). phi.into) (drop l.phi-index l.phis)) l.held ≡ holding l.slots (map (λ (phi : Phi). phi.into) l.phis) l.fn.held
