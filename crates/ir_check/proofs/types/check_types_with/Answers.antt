use Rattle.ir_check.proofs.types.check_types_with.Goals as goal

pub first_clash-requires-clause-once : goal.first_clash-requires-clause-once
first_clash-requires-clause-once c = rw (c.as_slice.ensures, c.requires.sites) c.requires.names.0
