use Rattle.term_rules.proofs.Common.{refl}
use Rattle.term_rules.proofs.WrappingRules.{first_part, second_part}
use Rattle.term_rules.proofs.wrapping.beside_multiple.Goals as goal

pub returns-in-Some : goal.returns-in-Some
returns-in-Some c =
    let found = c.in-Binary-Add-default-default-default in
    second_part c.args.terms.now c.args.p c.args.a c.args.b found.x found.y found.field-3 c.values_fit.ensures found.ensures.within.1 found.ensures.within.2 (rw found.field-0-is at found.ensures.tree)
    found.ensures.matched.0 found.ensures.matched.1 (c.if-not-is_plain.ensures refl) c.in-Some._factor c.in-Some.ensures

pub returns-in_ok-_factor-in-Binary-Add-default-default-default : goal.returns-in_ok-_factor-in-Binary-Add-default-default-default
returns-in_ok-_factor-in-Binary-Add-default-default-default c =
    let found = c.in-Binary-Add-default-default-default in
    let factor = c.in_ok-_factor-in-Binary-Add-default-default-default in
    first_part c.args.terms.now c.args.p c.args.a c.args.b found.x found.y found.field-3 c.values_fit.ensures found.ensures.within.1 found.ensures.within.2 (rw found.field-0-is at found.ensures.tree)
    found.ensures.matched.0 found.ensures.matched.1 (c.if-not-is_plain.ensures refl) factor._factor factor.ensures
