use Rattle.access_terms.proofs.Common.{◌-◌, ◌+◌, ◌≤◌, length, arith, bit_at, term_at, keeps_trans, sym_block-later}
use Rattle.access_terms.proofs.BlockLengths.{admitted_more, all_admitted}
use Rattle.access_terms.proofs.places.is_admitted.Goals as goal

pub is_admitted_at-requires-clause-block : goal.is_admitted_at-requires-clause-block
is_admitted_at-requires-clause-block c = sym_block-later c.args.terms.now c.loop-place.terms c.loop-place.invariant.kept c.args.b.now c.requires.block

pub loop-place-preserved : goal.loop-place-preserved
loop-place-preserved c =
    let k = c.loop-place.invariant.kept in
    record {
      kept = keeps_trans c.args.terms.now c.is_admitted_at.new.terms c.either.new.terms (keeps_trans c.args.terms.now c.loop-place.terms c.is_admitted_at.new.terms k c.is_admitted_at.ensures.kept) c.either.ensures.kept;
      made = record { within = c.in_ok-admitted-2.ensures.made.within; wide = c.in_ok-admitted-2.ensures.made.wide };
      stands = λ r. admitted_more c.args.terms.now c.loop-place.terms c.is_admitted_at.new.terms c.either.new.terms k c.loop-place.admitted c.in_ok-here.here c.in_ok-admitted-2.admitted c.args.b.now c.args.offset c.loop-place.place c.args.count c.args.align
          c.requires.block c.requires.offset.within c.loop-place.invariant.made c.is_admitted_at.ensures.kept c.in_ok-admitted-2.ensures.made r (c.loop-place.invariant.stands r) (c.in_ok-here.ensures.stands r);
    }

pub returns-clause-stands : goal.returns-clause-stands
returns-clause-stands c = λ r.
    let past : length c.args.b.now.places + 1 - c.args.count ≤ c.loop-place.place = (let e = rw c.as_slice.ensures at c.starts_of-place-end.ensures in omega (arith, c.loop-place-test.false, e)) in
    all_admitted r c.args.terms.now c.args.b.now (bit_at r.v c.loop-place.terms c.loop-place.admitted) (term_at r.v c.args.terms.now c.args.offset) c.loop-place.place c.args.count c.args.align past (c.loop-place.invariant.stands r)
