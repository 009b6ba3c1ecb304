use Rattle.ir_numbering.proofs.Common.{◌≡◌, ◌++◌, drop, flat_map, phi_places}
use Rattle.ir_numbering.proofs.places.add_phis.Given as goal

abbrev pub invariant-loop-phi : goal.invariant-loop-phi
invariant-loop-phi l = l.places ++ flat_map phi_places (drop l.phi-index l.phis) ≡ l.fn.places ++ flat_map phi_places l.phis
