use Rattle.term_sums.proofs.Common.{refl}
use Rattle.term_sums.proofs.ComplementRules.{or_part_first, or_part_second}
use Rattle.term_sums.proofs.complements.left_of_and.Goals as goal

pub returns-then-are_inverse : goal.returns-then-are_inverse
returns-then-are_inverse c =
    let found = c.in-Binary-And-default-default-default in
    or_part_second c.args.terms.now c.values_fit.ensures c.args.a c.args.b found.first found.second found.field-3 c.requires.a c.requires.alike
    found.ensures.within.1 found.ensures.within.2 found.ensures.matched.0 found.ensures.matched.1 (rw found.field-0-is at found.ensures.tree) (c.if-are_inverse.ensures refl)

pub returns-then-are_inverse-2 : goal.returns-then-are_inverse-2
returns-then-are_inverse-2 c =
    let found = c.in-Binary-And-default-default-default in
    or_part_first c.args.terms.now c.values_fit.ensures c.args.a c.args.b found.first found.second found.field-3 c.requires.a c.requires.alike
    found.ensures.within.1 found.ensures.within.2 found.ensures.matched.0 found.ensures.matched.1 (rw found.field-0-is at found.ensures.tree) (c.if-are_inverse-2.ensures refl)
