use Rattle.refine_terms.proofs.Common.{◌<◌, length, arith, keeps_trans, keeps_five}
use Rattle.refine_terms.proofs.MemoryTests.{no_sym_byte, place_row, places_end}
use Rattle.refine_terms.proofs.covering.places_allowed.Goals as goal

pub loop-i-preserved : goal.loop-i-preserved
loop-i-preserved c =
    let below : c.loop-i.i < length c.args.target.now = omega (arith, c.requires.count, c.loop-i-test.true) in
    let step = keeps_five c.loop-i.terms c.number.new.terms c.less.new.terms c.byte_allowed.new.terms c.implies.new.terms c.both.new.terms c.number.ensures.kept c.less.ensures.kept c.byte_allowed.ensures.kept c.implies.ensures.kept c.both.ensures.kept in
    record {
      kept = keeps_trans c.args.terms.now c.loop-i.terms c.both.new.terms c.loop-i.invariant.kept step;
      all = record { within = c.in_ok-all-2.ensures.made.within; wide = c.in_ok-all-2.ensures.made.wide };
      rest = place_row c.args.given c.args.terms.now c.loop-i.terms c.number.new.terms c.less.new.terms c.byte_allowed.new.terms c.implies.new.terms c.both.new.terms c.args.size c.in_ok-place.place c.in_ok-is_there.is_there c.in_ok-allowed.allowed c.in_ok-fine.fine c.loop-i.all c.in_ok-all-2.all
          c.args.source.now c.args.target.now c.loop-i.i no_sym_byte no_sym_byte c.requires.size c.requires.source c.requires.target c.loop-i-test.true below c.loop-i.invariant.all c.loop-i.invariant.kept
          c.number.ensures.kept c.less.ensures.kept c.byte_allowed.ensures.kept c.implies.ensures.kept c.loop-i.invariant.rest
          c.in_ok-place.ensures.made c.in_ok-is_there.ensures.made c.in_ok-allowed.ensures.made c.in_ok-fine.ensures.made c.in_ok-all-2.ensures.made;
    }

pub returns-clause-made : goal.returns-clause-made
returns-clause-made c =
    places_end c.args.given c.args.terms.now c.loop-i.terms c.args.size c.loop-i.all c.args.source.now c.args.target.now c.loop-i.i c.loop-i.invariant.all c.loop-i-test.false c.requires.count c.loop-i.invariant.rest
