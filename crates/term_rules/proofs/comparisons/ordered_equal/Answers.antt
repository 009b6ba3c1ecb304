use Rattle.std.proofs.Common.{rules}
use Rattle.term_rules.proofs.Common.{refl, ◌<◌, ◌^◌}
use Rattle.term_rules.proofs.DifferenceRules.{equal_are_equal, equal_known}
use Rattle.term_rules.proofs.OtherRules.{equal_to_turned}
use Rattle.term_rules.proofs.comparisons.ordered_equal.Goals as goal

pub returns-then-are_inverse : goal.returns-then-are_inverse
returns-then-are_inverse c = equal_to_turned c.args.terms.now c.args.a c.args.b c.width-width.result c.values_fit.ensures c.requires.a
    c.width-width.ensures.range c.width-width.ensures.width (c.if-are_inverse.ensures refl)

pub returns-in-Some : goal.returns-in-Some
returns-in-Some c =
    let small : c.digit_of-value.result < 2 ^ 1 = search rules in
    equal_known c.args.terms.now c.args.a c.args.b c.in-Some.by c.values_fit.ensures c.requires.b c.requires.alike c.in-Some.ensures c.digit_of-value.result c.digit_of-value.ensures small

pub returns-then-are_equal_terms : goal.returns-then-are_equal_terms
returns-then-are_equal_terms c = equal_are_equal c.args.terms.now c.args.a c.args.b (c.if-are_equal_terms.ensures refl)
