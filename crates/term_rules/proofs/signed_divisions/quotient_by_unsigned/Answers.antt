use Rattle.term_rules.proofs.Common.{refl}
use Rattle.term_rules.proofs.SignedRules.{quotient_by_unsigned}
use Rattle.term_rules.proofs.signed_divisions.quotient_by_unsigned.Goals as goal

pub returns-then-has_magnitude : goal.returns-then-has_magnitude
returns-then-has_magnitude c =
    let choice = c.in-Ite in
    let found = c.in-Binary-Udiv-default-default-default in
    quotient_by_unsigned c.args.terms.now c.args.q choice.c choice.opposite choice.size found.first found.second c.args.a c.args.b choice.width found.field-3 c.values_fit.ensures
    choice.ensures.tree (rw found.field-0-is at found.ensures.tree) choice.ensures.within.3 choice.ensures.matched.2 choice.ensures.within.2 choice.ensures.matched.1
    found.ensures.within.1 found.ensures.within.2 found.ensures.matched.0 found.ensures.matched.1 c.if-second-b.true (c.if-is_opposite.ensures refl) (c.if-has_magnitude.ensures refl)
