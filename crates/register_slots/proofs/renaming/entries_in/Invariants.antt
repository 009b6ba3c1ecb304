use Rattle.register_slots.proofs.Common.{◌≡◌, ◌++◌, map, drop, entry_in}
use Rattle.register_slots.proofs.renaming.entries_in.Given as goal

abbrev pub invariant-loop-entry : goal.invariant-loop-entry
invariant-loop-entry l = l.renamed ++ map (entry_in l.slots) (drop l.entry-index l.entries) ≡ map (entry_in l.slots) l.entries
