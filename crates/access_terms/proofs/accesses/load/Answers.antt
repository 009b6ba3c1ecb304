use Rattle.access_terms.proofs.Common.{keeps_trans, sym_blocks-later}
use Rattle.access_terms.proofs.Finding.{load_stands}
use Rattle.access_terms.proofs.accesses.load.Goals as goal

pub bytes_of-requires-clause-memory : goal.bytes_of-requires-clause-memory
bytes_of-requires-clause-memory c =
    sym_blocks-later c.args.terms.now c.at_pointer.new.terms (keeps_trans c.args.terms.now c.admits.new.terms c.at_pointer.new.terms c.admits.ensures.kept c.at_pointer.ensures.kept) c.args.memory.now c.requires.memory

pub returns-clause-stands : goal.returns-clause-stands
returns-clause-stands c = λ r naming.
    load_stands c.args.terms.now c.admits.new.terms c.at_pointer.new.terms c.bytes_of.new.terms c.value_of_bytes.new.terms c.args.memory.now c.args.at c.args.access c.args.align _
    c.in_ok-is_admitted.is_admitted c.in_ok-is_defined.is_defined c.in_ok-bytes.bytes c.in_ok-value.value c.admits.ensures.kept c.at_pointer.ensures.kept c.bytes_of.ensures.kept c.value_of_bytes.ensures.kept
    c.requires.memory c.requires.at (record { within = c.in_ok-is_defined.ensures.made.within; wide = c.in_ok-is_defined.ensures.made.wide }) c.access_size.ensures r
    (c.in_ok-is_admitted.ensures.stands r naming) (c.in_ok-is_defined.ensures.made.says r.v) (c.in_ok-bytes.ensures.stands r naming)
    (rw c.as_slice.ensures at (c.in_ok-value.ensures.stands r naming))
