use Rattle.module_rows.proofs.Common.{◌≡◌, take, entry_names}
use Rattle.module_rows.proofs.index.names_of.Given as goal

abbrev pub invariant-loop-entry : goal.invariant-loop-entry
invariant-loop-entry l = l.names ≡ take l.entry-index (entry_names l.entries)
