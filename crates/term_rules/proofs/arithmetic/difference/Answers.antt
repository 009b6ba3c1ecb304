use Rattle.term_rules.proofs.MagnitudeRules.{difference_of_taken}
use Rattle.term_rules.proofs.SumRules.{difference_of_rest, difference_with_number}
use Rattle.term_rules.proofs.DifferenceRules.{difference_is}
use Rattle.term_rules.proofs.arithmetic.difference.Goals as goal

pub returns-in-Some : goal.returns-in-Some
returns-in-Some c = difference_with_number c.args.terms.now c.args.a c.args.b c.in-Some.value c.difference-by.result c.width-width.result c.raised.result
    c.width-width.ensures.width c.in-Some.ensures.says c.difference-by.ensures c.raised.ensures

pub returns-in-Some-rest_of_sum : goal.returns-in-Some-rest_of_sum
returns-in-Some-rest_of_sum c = difference_of_rest c.args.terms.now c.args.a c.args.b c.values_fit.ensures c.requires.a c.requires.b c.requires.alike
    c.in-Some-rest_of_sum.rest c.in-Some-rest_of_sum.ensures

pub returns-in-Some-known_difference : goal.returns-in-Some-known_difference
returns-in-Some-known_difference c = difference_is c.args.terms.now c.args.a c.args.b c.in-Some-known_difference.value c.values_fit.ensures c.requires.b c.requires.alike c.in-Some-known_difference.ensures
    c.width-width.result c.width-width.ensures.range c.width-width.ensures.width c.requires.a

pub returns-in-Some-taken_from : goal.returns-in-Some-taken_from
returns-in-Some-taken_from c = difference_of_taken c.args.terms.now c.args.a c.args.b c.in-Some-taken_from.taken c.values_fit.ensures c.requires.a c.requires.alike
    c.in-Some-taken_from.ensures
