use Rattle.byte_terms.proofs.Common.{IsSymByte, each-push, keeps_trans, sym_bytes-later}
use Rattle.byte_terms.proofs.Parts.{parts_all, parts_more}
use Rattle.byte_terms.proofs.pointer_bytes.pointer_parts.Goals as goal

pub loop-place-preserved : goal.loop-place-preserved
loop-place-preserved c =
    let a = c.loop-place.terms in
    let b = c.pointer_part.new.terms in
    let now = c.loop-place.bytes.items in
    let made = each-push (IsSymByte b) now c.in_ok-byte.byte (sym_bytes-later a b c.pointer_part.ensures.kept now c.loop-place.invariant.made) c.in_ok-byte.ensures.made in
    record {
      kept = keeps_trans c.args.terms.now a b c.loop-place.invariant.kept c.pointer_part.ensures.kept;
      made = rw c.in_ok-push.ensures.items made;
      stands = λ r. rw c.in_ok-push.ensures.items (parts_more c.args.terms.now a b c.loop-place.invariant.kept c.pointer_part.ensures.kept c.args.is_part c.args.block c.args.offset now c.in_ok-byte.byte c.loop-place.place
          c.requires.is_part c.requires.block c.requires.offset c.loop-place.invariant.made c.loop-place-test.true r (c.loop-place.invariant.stands r) (c.in_ok-byte.ensures.stands r));
    }

pub returns-clause-stands : goal.returns-clause-stands
returns-clause-stands c = λ r.
    rw c.from_vec.ensures (parts_all r c.args.terms.now c.loop-place.terms c.args.is_part c.args.block c.args.offset c.loop-place.bytes.items c.loop-place.place c.loop-place-test.false (c.loop-place.invariant.stands r))
