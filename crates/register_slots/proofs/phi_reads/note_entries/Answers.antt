use Rattle.register_slots.proofs.Common.{IsEntryNoted}
use Rattle.register_slots.proofs.PhiLemmas.{entry_later, note_more, all_end}
use Rattle.register_slots.proofs.phi_reads.note_entries.Goals as goal

pub loop-entry-preserved : goal.loop-entry-preserved
loop-entry-preserved c = record {
  grows = λ at name found. c.in_ok-note_read.ensures.grows at name (c.loop-entry.invariant.grows at name found);
  noted = note_more IsEntryNoted (λ old new e. entry_later old new e) c.args.entries.now c.loop-entry.entry-index _ c.loop-entry.rows c.note_read.new.rows c.loop-entry-test.true c.in_ok-note_read.ensures.grows (c.in_ok-note_read.ensures.noted c.if-not-branch.false) c.loop-entry.invariant.noted;
}

pub returns-clause-noted : goal.returns-clause-noted
returns-clause-noted c = λ _. c.loop-entry.invariant.noted c.loop-entry.rows (λ at name found. found) (all_end (IsEntryNoted c.loop-entry.rows) c.args.entries.now c.loop-entry.entry-index c.loop-entry-test.false)
