use Rattle.access_terms.proofs.Common.{◌∙◌, sym, arith, term_at, places_at, keeps_trans, sym_bytes-later}
use Rattle.access_terms.proofs.Putting.{first_taken, taken_more}
use Rattle.access_terms.proofs.BlockLengths.{admitted_room, bytes_are}
use Rattle.access_terms.proofs.places.bytes_at.Goals as goal

pub take_bytes-requires-clause-places : goal.take_bytes-requires-clause-places
take_bytes-requires-clause-places c = rw c.as_slice-in-loop-place.ensures (sym_bytes-later c.args.terms.now c.loop-place.terms c.loop-place.invariant.kept c.args.b.now.places c.requires.block.places)

pub loop-place-init : goal.loop-place-init
loop-place-init c = record {
  kept = c.first_bytes.ensures.kept;
  made = c.in_ok-bytes.ensures.made;
  count = c.in_ok-bytes.ensures.count;
  stands = λ r admitted below.
      let o = term_at r.v c.args.terms.now c.args.offset in
      let room = admitted_room r c.args.terms.now c.args.b.now o c.args.count c.args.align admitted in
      first_taken o c.args.count (places_at r c.args.terms.now c.args.b.now.places) (places_at r c.first_bytes.new.terms c.in_ok-bytes.bytes) below ((rw c.as_slice.ensures at (c.in_ok-bytes.ensures.stands r)) (omega (arith, room)));
}

pub loop-place-preserved : goal.loop-place-preserved
loop-place-preserved c =
    let k = c.loop-place.invariant.kept in
    record {
      kept = keeps_trans c.args.terms.now c.loop-place.terms c.take_bytes.new.terms k c.take_bytes.ensures.kept;
      made = c.in_ok-take_bytes.ensures.made;
      count = c.in_ok-take_bytes.ensures.count ∙ c.loop-place.invariant.count;
      stands = λ r admitted below. taken_more c.args.terms.now c.loop-place.terms c.take_bytes.new.terms k c.args.b.now.places c.loop-place.bytes c.take_bytes.new.bytes c.args.offset c.loop-place.place c.args.count
          c.requires.block.places c.requires.offset.within c.loop-place.invariant.count r (λ before. c.loop-place.invariant.stands r admitted before) (rw c.as_slice-in-loop-place.ensures at (c.in_ok-take_bytes.ensures.stands r)) below;
    }

pub returns-clause-stands : goal.returns-clause-stands
returns-clause-stands c = λ r admitted.
    let room = admitted_room r c.args.terms.now c.args.b.now (term_at r.v c.args.terms.now c.args.offset) c.args.count c.args.align admitted in
    let end = rw c.as_slice-2.ensures at c.starts_of-place-end.ensures in
    c.loop-place.invariant.stands r admitted (omega (arith, room, end, c.loop-place-test.false)) ∙ sym (bytes_are r c.args.terms.now c.args.b.now c.args.offset c.args.count c.args.align admitted)
