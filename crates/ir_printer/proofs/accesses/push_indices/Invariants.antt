use Rattle.ir_printer.proofs.Common.{◌≡◌, drop, ◌++◌, ◌∷◌, flat_map, text_of, index_pieces}
use Rattle.ir_printer.proofs.accesses.push_indices.Given as goal

abbrev pub invariant-loop-index : goal.invariant-loop-index
invariant-loop-index l = l.out.items ++ flat_map (λ x. text_of (index_pieces l.names x)) (drop l.index-index l.indices) ≡ l.fn.out.items ++ flat_map (λ x. text_of (index_pieces l.names x)) l.indices
