use Rattle.term_rules.proofs.Common.{refl}
use Rattle.term_rules.proofs.DivisionRules.{remainder_of_less, remainder_of_whole}
use Rattle.term_rules.proofs.OtherRules.{rest_of_same}
use Rattle.term_rules.proofs.divisions.remainder.Goals as goal

pub returns-then-a-b : goal.returns-then-a-b
returns-then-a-b c = rest_of_same c.args.terms.now c.args.a c.args.b c.width-width.result c.width-width.ensures.range c.width-width.ensures.width c.if-a-b.true

pub returns-then-is_remainder_by : goal.returns-then-is_remainder_by
returns-then-is_remainder_by c = remainder_of_less c.args.terms.now c.args.a c.args.b c.requires.a (c.if-is_remainder_by.ensures refl).says

pub returns-in-Some : goal.returns-in-Some
returns-in-Some c = remainder_of_whole c.args.terms.now c.args.a c.args.b c.in-Some._whole c.width-width.result c.values_fit.ensures
    c.width-width.ensures.range c.width-width.ensures.width c.in-Some.ensures
