use Rattle.term_rules.proofs.Common.{sym, Known}
use Rattle.term_rules.proofs.SumRules.{sum_of_part, sum_shifted, sum_swapped, sum_with_number}
use Rattle.term_rules.proofs.arithmetic.ordered_sum.Goals as goal

pub returns-in-Some : goal.returns-in-Some
returns-in-Some c = sum_with_number c.args.terms.now c.args.a c.args.b c.in-Some.by c.width-width.result c.raised.result c.width-width.ensures.width c.in-Some.ensures.says c.raised.ensures

pub returns-in-Some-whole_of_difference : goal.returns-in-Some-whole_of_difference
returns-in-Some-whole_of_difference c = sum_of_part c.args.terms.now c.args.a c.args.b c.values_fit.ensures c.requires.a c.requires.b c.requires.alike
    c.in-Some-whole_of_difference.whole c.in-Some-whole_of_difference.ensures

pub returns-in-Some-whole_of_difference-2 : goal.returns-in-Some-whole_of_difference-2
returns-in-Some-whole_of_difference-2 c = sum_swapped c.args.terms.now c.args.a c.args.b c.values_fit.ensures c.requires.a c.requires.b c.requires.alike
    (Known c.in-Some-whole_of_difference-2.whole)
    (sum_of_part c.args.terms.now c.args.b c.args.a c.values_fit.ensures c.requires.b c.requires.a (sym c.requires.alike)
    c.in-Some-whole_of_difference-2.whole c.in-Some-whole_of_difference-2.ensures)

pub returns-then-width-gt1 : goal.returns-then-width-gt1
returns-then-width-gt1 c = sum_shifted c.args.terms.now c.args.a c.args.b c.width-width.result c.requires.a c.width-width.ensures.range c.width-width.ensures.width c.if-a-b.true c.if-width-gt1.true
