use Rattle.ir_numbering.proofs.Common.{◌≡◌, ◌++◌, drop, flat_map, entry_places}
use Rattle.ir_numbering.proofs.places.add_entries.Given as goal

abbrev pub invariant-loop-entry : goal.invariant-loop-entry
invariant-loop-entry l = l.places ++ flat_map entry_places (drop l.entry-index l.entries) ≡ l.fn.places ++ flat_map entry_places l.entries
