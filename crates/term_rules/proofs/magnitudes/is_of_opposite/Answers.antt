use Rattle.term_rules.proofs.Common.{arith}
use Rattle.term_rules.proofs.MagnitudeRules.{choice_turned_over}
use Rattle.term_rules.proofs.magnitudes.is_of_opposite.Goals as goal

pub returns-in-Some : goal.returns-in-Some
returns-in-Some c = λ h. choice_turned_over c.args.terms.now c.values_fit.ensures c.args.c c.args.a c.args.b c.in-Some.signed c.requires.a
    (omega (arith, c.width-whole.ensures.width, c.width-whole.ensures.range.0)) c.in-Some.ensures c.if-signed-b.true (c.is_opposite.ensures h)
