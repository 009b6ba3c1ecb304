use Rattle.byte_terms.proofs.Common.{◌+◌, ◌*◌, ◌^◌, get_or, arith, width_of, term_at, tree_in, IsSymByte, at-any, each-at, keeps_self, keeps_trans, sym_byte-later}
use Rattle.byte_terms.proofs.Digits.{joined_all, joined_first, joined_more, joined_wide}
use Rattle.byte_terms.proofs.integer_bytes.joined.Goals as goal

pub loop-i-init : goal.loop-i-init
loop-i-init c =
    let byte = get_or c.args.bytes.now 0 (record { is_part = record { index = 0 }; mask = record { index = 0 }; number = record { index = 0 }; block = record { index = 0 }; offset = record { index = 0 }; part = record { index = 0 } }) in
    let item = each-at (IsSymByte c.args.terms.now) c.args.bytes.now 0 byte c.requires.bytes c.requires.least (at-any c.args.bytes.now 0 _ _ c.requires.least) in
    record {
      kept = keeps_self c.args.terms.now;
      within = c.requires.least;
      made = item.number;
      stands = λ r a so. joined_first r c.args.terms.now c.args.bytes.now byte a c.values_fit.ensures item c.requires.least (at-any c.args.bytes.now 0 _ _ c.requires.least) so;
    }

pub concat-requires-clause-most : goal.concat-requires-clause-most
concat-requires-clause-most c =
    let byte = get_or c.args.bytes.now c.loop-i.i (record { is_part = record { index = 0 }; mask = record { index = 0 }; number = record { index = 0 }; block = record { index = 0 }; offset = record { index = 0 }; part = record { index = 0 } }) in
    let item = sym_byte-later c.args.terms.now c.loop-i.terms c.loop-i.invariant.kept byte (each-at (IsSymByte c.args.terms.now) c.args.bytes.now c.loop-i.i byte c.requires.bytes c.loop-i-test.true (at-any c.args.bytes.now c.loop-i.i _ _ c.loop-i-test.true)) in
    let high = item.number.wide in
    let low = c.loop-i.invariant.made.wide in
    omega (arith, high, low, c.requires.most, c.loop-i-test.true)

pub loop-i-preserved : goal.loop-i-preserved
loop-i-preserved c =
    let a = c.loop-i.terms in
    let k = c.loop-i.invariant.kept in
    let byte = get_or c.args.bytes.now c.loop-i.i (record { is_part = record { index = 0 }; mask = record { index = 0 }; number = record { index = 0 }; block = record { index = 0 }; offset = record { index = 0 }; part = record { index = 0 } }) in
    let is = at-any c.args.bytes.now c.loop-i.i _ byte c.loop-i-test.true in
    let item = sym_byte-later c.args.terms.now a k byte (each-at (IsSymByte c.args.terms.now) c.args.bytes.now c.loop-i.i byte c.requires.bytes c.loop-i-test.true is) in
    record {
      kept = keeps_trans c.args.terms.now a c.concat.new.terms k c.concat.ensures.kept;
      within = omega (arith, c.loop-i-test.true);
      made = joined_wide a c.concat.new.terms c.loop-i.i byte.number c.loop-i.joined c.in_ok-joined.joined item.number.wide c.loop-i.invariant.made
          (λ v. term_at v a byte.number * 2 ^ width_of (tree_in a c.loop-i.joined) + term_at v a c.loop-i.joined) c.in_ok-joined.ensures.made;
      stands = λ r n so. joined_more r c.args.terms.now a c.concat.new.terms k c.args.bytes.now c.loop-i.i byte c.loop-i.joined c.in_ok-joined.joined n
          c.values_fit.ensures c.requires.bytes c.loop-i-test.true is c.loop-i.invariant.made c.in_ok-joined.ensures.made (c.loop-i.invariant.stands r n so);
    }

pub returns-clause-stands : goal.returns-clause-stands
returns-clause-stands c = λ r n so.
    joined_all r c.args.terms.now c.args.bytes.now c.loop-i.i n (term_at r.v c.loop-i.terms c.loop-i.joined) c.loop-i-test.false (c.loop-i.invariant.stands r n so)
