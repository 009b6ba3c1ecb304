use Rattle.byte_terms.proofs.Common.{get_or, bit_at, IsSymByte, at-any, each-at, byte-later, keeps_trans}
use Rattle.byte_terms.proofs.Parts.{are_parts_all, are_parts_more, pointer_at}
use Rattle.byte_terms.proofs.pointer_bytes.are_parts.Goals as goal

pub loop-i-preserved : goal.loop-i-preserved
loop-i-preserved c =
    let a = c.loop-i.terms in
    let b = c.is_part.new.terms in
    let k = c.loop-i.invariant.kept in
    let byte = get_or c.args.bytes.now c.loop-i.i (record { is_part = record { index = 0 }; mask = record { index = 0 }; number = record { index = 0 }; block = record { index = 0 }; offset = record { index = 0 }; part = record { index = 0 } }) in
    let is = at-any c.args.bytes.now c.loop-i.i _ byte c.loop-i-test.true in
    let item = each-at (IsSymByte c.args.terms.now) c.args.bytes.now c.loop-i.i byte c.requires.bytes c.loop-i-test.true is in
    record {
      kept = keeps_trans c.args.terms.now b c.both.new.terms (keeps_trans c.args.terms.now a b k c.is_part.ensures.kept) c.both.ensures.kept;
      made = record { within = c.in_ok-are_parts-2.ensures.made.within; wide = c.in_ok-are_parts-2.ensures.made.wide };
      stands = λ r named. are_parts_more c.args.terms.now a b c.both.new.terms k c.args.block c.args.offset c.args.bytes.now c.loop-i.i byte c.loop-i.are_parts c.in_ok-here.here c.in_ok-are_parts-2.are_parts
          c.requires.bytes c.loop-i-test.true is c.requires.block c.requires.offset c.loop-i.invariant.made c.is_part.ensures.kept c.in_ok-are_parts-2.ensures.made r
          (c.in_ok-here.ensures.stands r named) (byte-later c.args.terms.now a k r byte item) (c.loop-i.invariant.stands r named);
    }

pub returns-clause-stands : goal.returns-clause-stands
returns-clause-stands c = λ r named.
    are_parts_all r c.args.terms.now (pointer_at r c.args.terms.now c.args.block c.args.offset) (bit_at r.v c.loop-i.terms c.loop-i.are_parts) c.args.bytes.now c.loop-i.i c.requires.count
    (rw (← c.requires.count) c.loop-i-test.false) (rw (← c.requires.count) c.loop-i.auto.i-end) (c.loop-i.invariant.stands r named)
