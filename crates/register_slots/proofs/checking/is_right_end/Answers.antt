use Rattle.register_slots.proofs.PhiLemmas.{entries_held}
use Rattle.register_slots.proofs.checking.is_right_end.Goals as goal

pub are_right_jumps-requires-clause-entries : goal.are_right_jumps-requires-clause-entries
are_right_jumps-requires-clause-entries c = entries_held c.args.f.now c.args.slots.now c.args.held.now c.args.tables.now.reads c.args.block.now.label c.requires.reads (rw (c.row_at.ensures, c.as_slice.ensures) at (c.are_held.ensures c.if-not-are_held.false))
