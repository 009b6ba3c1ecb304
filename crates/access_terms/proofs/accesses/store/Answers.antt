use Rattle.access_terms.proofs.Common.{◌∙◌, sym, keeps_trans, sym_blocks-later, memory_at}
use Rattle.access_terms.proofs.Stored.{after_stands, store_stands, stored_count}
use Rattle.access_terms.proofs.accesses.store.Goals as goal

pub write-requires-clause-memory : goal.write-requires-clause-memory
write-requires-clause-memory c =
    let t0 = c.args.terms.now in
    let t2 = c.at_pointer.new.terms in
    let k02 = keeps_trans t0 c.admits.new.terms t2 c.admits.ensures.kept c.at_pointer.ensures.kept in
    sym_blocks-later t0 c.bytes_of_value.new.terms (keeps_trans t0 t2 c.bytes_of_value.new.terms k02 c.bytes_of_value.ensures.kept) c.args.memory.now c.requires.memory

pub write-requires-clause-count : goal.write-requires-clause-count
write-requires-clause-count c =
    rw c.as_slice-2.ensures (stored_count c.bytes_of_value.new.terms c.at_pointer.new.terms c.args.access c.in_ok-bytes.bytes c.args.value c.in_ok-bytes.ensures.stands ∙ sym c.access_size.ensures)

pub returns-clause-stands : goal.returns-clause-stands
returns-clause-stands c = λ r naming.
    let t2 = c.at_pointer.new.terms in
    let t3 = c.bytes_of_value.new.terms in
    store_stands c.args.terms.now c.admits.new.terms t2 c.args.memory.now c.args.at c.args.access c.args.align c.access_size.result c.in_ok-is_admitted.is_admitted c.in_ok-is_defined.is_defined
    c.admits.ensures.kept c.at_pointer.ensures.kept c.requires.memory c.requires.at (record { within = c.in_ok-is_defined.ensures.made.within; wide = c.in_ok-is_defined.ensures.made.wide }) c.access_size.ensures r
    (rw c.as_slice.ensures at (c.in_ok-is_admitted.ensures.stands r naming)) (c.in_ok-is_defined.ensures.made.says r.v) c.write.new.terms (keeps_trans t2 t3 c.write.new.terms c.bytes_of_value.ensures.kept c.write.ensures.kept)

pub returns-clause-after : goal.returns-clause-after
returns-clause-after c = λ r naming holds.
    let t2 = c.at_pointer.new.terms in
    let t3 = c.bytes_of_value.new.terms in
    let t4 = c.write.new.terms in
    after_stands c.args.terms.now c.admits.new.terms t2 c.args.memory.now c.args.at c.args.access c.args.align c.access_size.result c.in_ok-is_admitted.is_admitted c.in_ok-is_defined.is_defined
    c.admits.ensures.kept c.at_pointer.ensures.kept c.requires.memory c.requires.at (record { within = c.in_ok-is_defined.ensures.made.within; wide = c.in_ok-is_defined.ensures.made.wide }) c.access_size.ensures r
    (rw c.as_slice.ensures at (c.in_ok-is_admitted.ensures.stands r naming)) (c.in_ok-is_defined.ensures.made.says r.v)
    t3 t4 c.args.value c.in_ok-bytes.bytes (memory_at r t4 c.write.new.memory) c.bytes_of_value.ensures.kept c.write.ensures.kept c.requires.value (c.in_ok-bytes.ensures.stands r)
    (rw c.as_slice-2.ensures at (c.in_ok-write.ensures.stands r naming)) holds
