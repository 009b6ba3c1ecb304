use Rattle.term_rules.proofs.Common.{Known, ◌∙◌}
use Rattle.term_rules.proofs.BitRules.{xor_of_ones, xor_of_same, xor_swapped}
use Rattle.term_rules.proofs.bitwise.ordered_xor.Goals as goal

pub returns-then-a-b : goal.returns-then-a-b
returns-then-a-b c = xor_of_same c.args.terms.now c.args.a c.args.b c.values_fit.ensures c.requires.a c.requires.b c.requires.alike
    c.width-width.result c.width-width.ensures.range c.width-width.ensures.width c.if-a-b.true

pub returns-in-Some-2 : goal.returns-in-Some-2
returns-in-Some-2 c = xor_of_ones c.args.terms.now c.args.a c.args.b c.values_fit.ensures c.requires.a c.requires.b c.requires.alike
    c.in-Some-number.value c.width-width.result c.width-width.ensures.range c.width-width.ensures.width (c.if-value-ones.true ∙ c.ones.ensures) c.in-Some-number.ensures.says

pub returns-in-Some-rest_of_xor : goal.returns-in-Some-rest_of_xor
returns-in-Some-rest_of_xor c = xor_swapped c.args.terms.now c.args.a c.args.b c.requires.alike (Known c.in-Some-rest_of_xor.rest) c.in-Some-rest_of_xor.ensures
