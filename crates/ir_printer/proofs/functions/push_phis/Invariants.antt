use Rattle.ir_printer.proofs.Common.{◌≡◌, drop, ◌++◌, ◌∷◌, flat_map, text_of, phi_pieces}
use Rattle.ir_printer.proofs.functions.push_phis.Given as goal

abbrev pub invariant-loop-phi : goal.invariant-loop-phi
invariant-loop-phi l = l.out.items ++ flat_map (λ x. text_of (phi_pieces l.names x)) (drop l.phi-index l.phis) ≡ l.fn.out.items ++ flat_map (λ x. text_of (phi_pieces l.names x)) l.phis
