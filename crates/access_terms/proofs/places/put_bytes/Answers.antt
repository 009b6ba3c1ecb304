use Rattle.access_terms.proofs.Common.{◌+◌, ◌∙◌, List, length, get_or, ap, sym, arith, length-set, SymByte, bit_at, IsSymByte, byte_at, places_at, at-any, each-set, map-length, keeps_trans, sym_bytes-later}
use Rattle.std.proofs.lemmas.Option.{get_or_from_slice_get}
use Rattle.access_terms.proofs.Putting.{put_all, put_more}
use Rattle.access_terms.proofs.places.put_bytes.Goals as goal

pub loop-i-preserved : goal.loop-i-preserved
loop-i-preserved c =
    let a = c.loop-i.terms in
    let b = c.pick_byte.new.terms in
    let now = c.loop-i.places in
    let j = c.args.from + c.loop-i.i in
    let i = c.loop-i.invariant in
    let before = c.get-before.result.now in
    let byte = get_or c.args.bytes.now c.loop-i.i (record { is_part = record { index = 0 }; mask = record { index = 0 }; number = record { index = 0 }; block = record { index = 0 }; offset = record { index = 0 }; part = record { index = 0 } }) in
    let made = each-set (IsSymByte b) now j c.in_ok-picked.picked (sym_bytes-later a b c.pick_byte.ensures.kept now i.made) c.in_ok-picked.ensures.made in
    let stands = put_more c.args.terms.now a b c.args.c c.args.bytes.now c.args.places.now now c.args.from c.loop-i.i byte before c.in_ok-picked.picked
    c.requires.c c.requires.bytes c.requires.room i.count c.loop-i-test.true (at-any c.args.bytes.now c.loop-i.i _ _ c.loop-i-test.true) (sym (get_or_from_slice_get now j before before c.get-before.ensures))
    i.kept i.made i.stands c.pick_byte.ensures.kept c.in_ok-picked.ensures.stands in
    record {
      kept = keeps_trans c.args.terms.now a b i.kept c.pick_byte.ensures.kept;
      within = omega (arith, c.loop-i-test.true);
      made = rw c.set.ensures made;
      count = ap (λ (bs : List SymByte). length bs) c.set.ensures ∙ (length-set now j c.in_ok-picked.picked ∙ i.count);
      stands = rw c.set.ensures stands;
    }

pub returns-clause-stands : goal.returns-clause-stands
returns-clause-stands c = λ r.
    let short = map-length (byte_at r c.args.terms.now) c.args.bytes.now in
    put_all (bit_at r.v c.args.terms.now c.args.c) (places_at r c.args.terms.now c.args.places.now) (places_at r c.args.terms.now c.args.bytes.now) (places_at r c.loop-i.terms c.loop-i.places) c.args.from c.loop-i.i
    (omega (arith, short, c.loop-i-test.false, c.loop-i.invariant.within)) (c.loop-i.invariant.stands r)
