use Rattle.term_rules.proofs.Common.{◌∙◌, refl}
use Rattle.term_rules.proofs.ComplementRules.{and_by_part}
use Rattle.term_rules.proofs.BitRules.{and_of_apart, and_of_ones, and_swapped}
use Rattle.term_rules.proofs.bitwise.ordered_and.Goals as goal

pub returns-then-are_apart : goal.returns-then-are_apart
returns-then-are_apart c = and_of_apart c.args.terms.now c.args.a c.args.b c.values_fit.ensures c.requires.a c.requires.b c.requires.alike
    c.width-width.result c.width-width.ensures.range c.width-width.ensures.width (c.if-are_apart.ensures refl)

pub returns-in-Some-2 : goal.returns-in-Some-2
returns-in-Some-2 c = and_of_ones c.args.terms.now c.args.a c.args.b c.values_fit.ensures c.requires.a c.requires.b c.requires.alike
    c.in-Some-number.value c.width-width.result c.width-width.ensures.width (c.if-value-ones.true ∙ c.ones.ensures) c.in-Some-number.ensures.says

pub returns-in-Some-left_of_or : goal.returns-in-Some-left_of_or
returns-in-Some-left_of_or c = and_by_part c.args.terms.now c.args.a c.args.b c.in-Some-left_of_or.rest c.width-width.result c.plain_and.result
    c.width-width.ensures.width c.in-Some-left_of_or.ensures c.plain_and.ensures

pub returns-in-Some-left_of_or-2 : goal.returns-in-Some-left_of_or-2
returns-in-Some-left_of_or-2 c = and_swapped c.args.terms.now c.args.a c.args.b c.requires.alike c.plain_and-in-Some-left_of_or-2.result
    (and_by_part c.args.terms.now c.args.b c.args.a c.in-Some-left_of_or-2.rest c.width-width.result c.plain_and-in-Some-left_of_or-2.result
    (c.width-width.ensures.width ∙ c.requires.alike) c.in-Some-left_of_or-2.ensures c.plain_and-in-Some-left_of_or-2.ensures)
