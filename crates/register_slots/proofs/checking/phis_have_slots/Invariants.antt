use Rattle.register_slots.proofs.Common.{drop, AllByRecursion, Phi, HasSlot}
use Rattle.register_slots.proofs.checking.phis_have_slots.Given as goal

abbrev pub invariant-loop-phi : goal.invariant-loop-phi
invariant-loop-phi l = AllByRecursion (λ (phi : Phi). HasSlot l.slots l.names l.count phi.into) (drop l.phi-index l.phis) → AllByRecursion (λ (phi : Phi). HasSlot l.slots l.names l.count phi.into) l.phis
