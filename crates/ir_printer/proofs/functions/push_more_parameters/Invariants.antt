use Rattle.ir_printer.proofs.Common.{◌≡◌, drop, ◌++◌, ◌∷◌, flat_map, text_of, parameter_pieces, comma, space}
use Rattle.ir_printer.proofs.functions.push_more_parameters.Given as goal

abbrev pub invariant-loop-parameter : goal.invariant-loop-parameter
invariant-loop-parameter l = l.out.items ++ flat_map (λ x. text_of (comma ∷ parameter_pieces l.names space x)) (drop l.parameter-index l.parameters) ≡ l.fn.out.items ++ flat_map (λ x. text_of (comma ∷ parameter_pieces l.names space x)) l.parameters
