use Rattle.byte_terms.proofs.Common.{◌<◌, ◌≤◌, ◌+◌, ◌/◌, subst, IsSymByte, each-push, keeps_trans, sym_bytes-later}
use Rattle.byte_terms.proofs.Digits.{digits_all, digits_more}
use Rattle.byte_terms.proofs.integer_bytes.number_bytes.Goals as goal

pub loop-place-preserved : goal.loop-place-preserved
loop-place-preserved c =
    let a = c.loop-place.terms in
    let b = c.number_byte.new.terms in
    let now = c.loop-place.bytes.items in
    let made = each-push (IsSymByte b) now c.in_ok-byte.byte (sym_bytes-later a b c.number_byte.ensures.kept now c.loop-place.invariant.made) c.in_ok-byte.ensures.made in
    let within = subst (λ n. c.loop-place.place < n) c.byte_count-place-end.ensures.value c.loop-place-test.true in
    record {
      kept = keeps_trans c.args.terms.now a b c.loop-place.invariant.kept c.number_byte.ensures.kept;
      made = rw c.in_ok-push.ensures.items made;
      stands = λ r. rw c.in_ok-push.ensures.items (digits_more c.args.terms.now a b c.loop-place.invariant.kept c.number_byte.ensures.kept c.args.is_poison c.args.value now c.in_ok-byte.byte c.loop-place.place ((c.args.width.bits + 7) / 8) c.args.width.bits
          c.requires.is_poison c.requires.value c.loop-place.invariant.made within r (c.loop-place.invariant.stands r) (c.in_ok-byte.ensures.stands r));
    }

pub returns-clause-stands : goal.returns-clause-stands
returns-clause-stands c = λ r.
    rw c.from_vec.ensures (digits_all r c.args.terms.now c.loop-place.terms c.args.is_poison c.args.value c.loop-place.bytes.items c.loop-place.place ((c.args.width.bits + 7) / 8) c.args.width.bits
    (subst (λ n. n ≤ c.loop-place.place) c.byte_count-place-end.ensures.value c.loop-place-test.false) (c.loop-place.invariant.stands r))
