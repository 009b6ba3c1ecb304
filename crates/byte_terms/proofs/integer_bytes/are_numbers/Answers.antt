use Rattle.byte_terms.proofs.Common.{get_or, at-any, keeps_trans, bit_at}
use Rattle.byte_terms.proofs.Digits.{numbers_all, numbers_more}
use Rattle.byte_terms.proofs.integer_bytes.are_numbers.Goals as goal

pub loop-byte-preserved : goal.loop-byte-preserved
loop-byte-preserved c =
    let a = c.loop-byte.terms in
    let b = c.is_number.new.terms in
    let k = c.loop-byte.invariant.kept in
    let byte = get_or c.args.bytes.now c.loop-byte.byte-index (record { is_part = record { index = 0 }; mask = record { index = 0 }; number = record { index = 0 }; block = record { index = 0 }; offset = record { index = 0 }; part = record { index = 0 } }) in
    record {
      kept = keeps_trans c.args.terms.now b c.both.new.terms (keeps_trans c.args.terms.now a b k c.is_number.ensures.kept) c.both.ensures.kept;
      made = record { within = c.in_ok-are_numbers-2.ensures.made.within; wide = c.in_ok-are_numbers-2.ensures.made.wide };
      stands = λ r. numbers_more c.args.terms.now a b c.both.new.terms k c.args.bytes.now c.loop-byte.byte-index byte c.loop-byte.are_numbers c.in_ok-is_number.is_number c.in_ok-are_numbers-2.are_numbers
          c.requires c.loop-byte-test.true (at-any c.args.bytes.now c.loop-byte.byte-index _ _ c.loop-byte-test.true) c.loop-byte.invariant.made c.is_number.ensures.kept c.in_ok-is_number.ensures.made c.in_ok-are_numbers-2.ensures.made r (c.loop-byte.invariant.stands r);
    }

pub returns-clause-stands : goal.returns-clause-stands
returns-clause-stands c = λ r.
    numbers_all r c.args.terms.now (bit_at r.v c.loop-byte.terms c.loop-byte.are_numbers) c.args.bytes.now c.loop-byte.byte-index c.loop-byte-test.false (c.loop-byte.invariant.stands r)
