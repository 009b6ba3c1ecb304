use Rattle.encoder.proofs.Common.{is_term-later, keeps_trans, ending-later}
use Rattle.encoder.proofs.Whole.{finish_stands}
use Rattle.encoder.proofs.function_run.finish.Goals as goal

pub both-requires-clause-a : goal.both-requires-clause-a
both-requires-clause-a c = is_term-later c.args.terms.now c.zeros.new.terms c.zeros.ensures.kept 1 c.args.ending.tally.fits c.requires.ending.tally.fits

pub both-requires-clause-b : goal.both-requires-clause-b
both-requires-clause-b c = record { within = c.in_ok-rest.ensures.made.within; wide = c.in_ok-rest.ensures.made.wide }

pub returns-clause-made : goal.returns-clause-made
returns-clause-made c =
    let h = ending-later c.args.terms.now c.both.new.terms (keeps_trans c.args.terms.now c.zeros.new.terms c.both.new.terms c.zeros.ensures.kept c.both.ensures.kept) c.args.ending c.requires.ending in
    record {
      ub = h.ub;
      beyond = h.beyond;
      value = h.value;
      blocks = h.given.are;
      always = h.given.always;
      read = h.tally.read;
      plain = record { within = c.in_ok-plain.ensures.made.within; wide = c.in_ok-plain.ensures.made.wide };
    }

pub returns-clause-given : goal.returns-clause-given
returns-clause-given c = c.requires.ending.given.frames

pub returns-clause-stands : goal.returns-clause-stands
returns-clause-stands c = finish_stands c.args.terms.now c.zeros.new.terms c.both.new.terms c.zeros.ensures.kept c.both.ensures.kept c.args.ending c.requires.ending c.args.tape.now c.in_ok-rest.rest c.in_ok-plain.plain c.in_ok-rest.ensures.made c.in_ok-plain.ensures.made
