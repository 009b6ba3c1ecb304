use Rattle.ir_printer.proofs.Common.{◌≡◌, drop, ◌++◌, ◌∷◌, flat_map, text_of, entry_pieces, comma}
use Rattle.ir_printer.proofs.terminators.push_more_entries.Given as goal

abbrev pub invariant-loop-entry : goal.invariant-loop-entry
invariant-loop-entry l = l.out.items ++ flat_map (λ x. text_of (comma ∷ entry_pieces l.names x)) (drop l.entry-index l.entries) ≡ l.fn.out.items ++ flat_map (λ x. text_of (comma ∷ entry_pieces l.names x)) l.entries
