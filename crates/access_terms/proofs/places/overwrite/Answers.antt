use Rattle.access_terms.proofs.Common.{◌+◌, ◌%◌, ◌&&◌, ◌∙◌, length, nat_eq, nat_le, refl, sym, arith, bit_at, term_at, places_at, written}
use Rattle.access_terms.proofs.BlockLengths.{first_room, first_stands, first_stays, overwrite_stands, overwrite_stays}
use Rattle.access_terms.proofs.places.overwrite.Goals as goal

pub put_bytes-requires-clause-room : goal.put_bytes-requires-clause-room
put_bytes-requires-clause-room c =
    let few = first_room (length c.args.bytes.now) (length c.args.b.now.places) c.args.align (rw c.as_slice.ensures at (sym c.is_first_alone.ensures ∙ c.if-is_first_alone.true)) in
    omega (arith, few)

pub returns-then-is_first_alone-clause-frame : goal.returns-then-is_first_alone-clause-frame
returns-then-is_first_alone-clause-frame c = rw c.in_ok-put_bytes.ensures.count refl

pub returns-then-is_first_alone-clause-stays : goal.returns-then-is_first_alone-clause-stays
returns-then-is_first_alone-clause-stays c = λ r never.
    first_stays c.args.terms.now c.put_bytes.new.terms c.put_bytes.ensures.kept c.args.b.now c.put_bytes.new.places r (bit_at r.v c.args.terms.now c.args.c)
    (written (places_at r c.args.terms.now c.args.bytes.now) 0 (places_at r c.args.terms.now c.args.b.now.places)) c.requires.block never (c.in_ok-put_bytes.ensures.stands r)

pub returns-then-is_first_alone-clause-stands : goal.returns-then-is_first_alone-clause-stands
returns-then-is_first_alone-clause-stands c = λ r chosen admitted.
    first_stands c.args.terms.now c.put_bytes.new.terms c.put_bytes.ensures.kept c.args.b.now c.put_bytes.new.places c.args.bytes.now r (bit_at r.v c.args.terms.now c.args.c)
    (term_at r.v c.args.terms.now c.args.offset) (length c.args.bytes.now) c.args.align c.requires.block (rw c.as_slice.ensures at (sym c.is_first_alone.ensures ∙ c.if-is_first_alone.true)) chosen admitted (c.in_ok-put_bytes.ensures.stands r)

pub returns-clause-frame : goal.returns-clause-frame
returns-clause-frame c = rw c.in_ok-overwrite_places.ensures.count refl

pub returns-clause-stays : goal.returns-clause-stays
returns-clause-stays c = λ r never.
    let o = term_at r.v c.args.terms.now c.args.offset in
    overwrite_stays c.args.terms.now c.overwrite_places.new.terms c.overwrite_places.ensures.kept c.args.b.now c.overwrite_places.new.places r (bit_at r.v c.args.terms.now c.args.c)
    (nat_le (o + length c.args.bytes.now) (length c.args.b.now.places) && nat_eq (o % c.args.align) 0) (written (places_at r c.args.terms.now c.args.bytes.now) o (places_at r c.args.terms.now c.args.b.now.places))
    c.requires.block never (c.in_ok-overwrite_places.ensures.stands r)

pub returns-clause-stands : goal.returns-clause-stands
returns-clause-stands c = λ r chosen admitted.
    overwrite_stands c.args.terms.now c.overwrite_places.new.terms c.overwrite_places.ensures.kept c.args.b.now c.overwrite_places.new.places c.args.bytes.now r (bit_at r.v c.args.terms.now c.args.c)
    (term_at r.v c.args.terms.now c.args.offset) (length c.args.bytes.now) c.args.align c.requires.block chosen admitted (c.in_ok-overwrite_places.ensures.stands r)
