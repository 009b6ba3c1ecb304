use Rattle.term_rules.proofs.Common.{◌∙◌, refl}
use Rattle.term_rules.proofs.ComplementRules.{or_by_part}
use Rattle.term_rules.proofs.BitRules.{or_of_ones, or_of_same, or_of_whole, or_of_zero, or_swapped}
use Rattle.term_rules.proofs.bitwise.ordered_or.Goals as goal

pub returns-then-a-b : goal.returns-then-a-b
returns-then-a-b c = or_of_same c.args.terms.now c.args.a c.args.b c.values_fit.ensures c.requires.a c.requires.b c.requires.alike c.if-a-b.true

pub returns-then-are_whole : goal.returns-then-are_whole
returns-then-are_whole c = or_of_whole c.args.terms.now c.args.a c.args.b c.values_fit.ensures c.requires.a c.requires.b c.requires.alike
    c.ones-value.result c.width-width.result c.width-width.ensures.range c.width-width.ensures.width c.ones-value.ensures (c.if-are_whole.ensures refl)

pub returns-in-Some-number : goal.returns-in-Some-number
returns-in-Some-number c = or_of_zero c.args.terms.now c.args.a c.args.b c.values_fit.ensures c.requires.a c.requires.b c.requires.alike
    c.in-Some-number.value c.if-value-eq0.true c.in-Some-number.ensures.says

pub returns-in-Some-2 : goal.returns-in-Some-2
returns-in-Some-2 c = or_of_ones c.args.terms.now c.args.a c.args.b c.values_fit.ensures c.requires.a c.requires.b c.requires.alike
    c.in-Some-number.value c.width-width.result c.width-width.ensures.width (c.if-value-ones.true ∙ c.ones.ensures) c.in-Some-number.ensures.says

pub returns-in-Some-left_of_and : goal.returns-in-Some-left_of_and
returns-in-Some-left_of_and c = or_by_part c.args.terms.now c.args.a c.args.b c.in-Some-left_of_and.rest c.width-width.result c.plain_or.result
    c.width-width.ensures.width c.in-Some-left_of_and.ensures c.plain_or.ensures

pub returns-in-Some-left_of_and-2 : goal.returns-in-Some-left_of_and-2
returns-in-Some-left_of_and-2 c = or_swapped c.args.terms.now c.args.a c.args.b c.requires.alike c.plain_or-in-Some-left_of_and-2.result
    (or_by_part c.args.terms.now c.args.b c.args.a c.in-Some-left_of_and-2.rest c.width-width.result c.plain_or-in-Some-left_of_and-2.result
    (c.width-width.ensures.width ∙ c.requires.alike) c.in-Some-left_of_and-2.ensures c.plain_or-in-Some-left_of_and-2.ensures)
