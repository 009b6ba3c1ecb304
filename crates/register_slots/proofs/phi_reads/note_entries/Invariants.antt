use Rattle.register_slots.proofs.Common.{ℕ, List, drop, AllByRecursion, Grows, IsEntryNoted}
use Rattle.register_slots.proofs.phi_reads.note_entries.Given as goal

abbrev pub invariant-loop-entry : goal.invariant-loop-entry
invariant-loop-entry l = record {
  grows : Grows l.fn.rows l.rows;
  noted : (rows : List (List ℕ)) → Grows l.rows rows → AllByRecursion (IsEntryNoted rows) (drop l.entry-index l.entries) → AllByRecursion (IsEntryNoted rows) l.entries;
}
