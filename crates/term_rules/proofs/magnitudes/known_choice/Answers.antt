use Rattle.term_rules.proofs.Common.{arith, refl}
use Rattle.term_rules.proofs.MagnitudeRules.{choice_of_signed, choice_of_size}
use Rattle.term_rules.proofs.magnitudes.known_choice.Goals as goal

pub returns-then-b-signed : goal.returns-then-b-signed
returns-then-b-signed c = choice_of_size c.args.terms.now c.values_fit.ensures c.args.c c.args.a c.args.b c.in_ok-signed.signed c.in_ok-size.size
    c.requires.a c.requires.alike (omega (arith, c.width-whole.ensures.width, c.width-whole.ensures.range.0)) c.in_ok-signed.ensures c.in_ok-size.ensures (c.if-is_opposite.ensures refl) c.if-b-signed.true

pub returns-then-b-size : goal.returns-then-b-size
returns-then-b-size c = choice_of_signed c.args.terms.now c.values_fit.ensures c.args.c c.args.a c.args.b c.in_ok-signed.signed c.in_ok-size.size
    c.requires.a c.requires.alike (omega (arith, c.width-whole.ensures.width, c.width-whole.ensures.range.0)) c.in_ok-signed.ensures c.in_ok-size.ensures (c.if-is_opposite.ensures refl) c.if-b-size.true
