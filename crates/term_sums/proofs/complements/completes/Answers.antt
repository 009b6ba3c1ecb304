use Rattle.term_sums.proofs.Common.{refl}
use Rattle.term_sums.proofs.ComplementRules.{completes_first, completes_second}
use Rattle.term_sums.proofs.complements.completes.Goals as goal

pub returns-then-are_inverse : goal.returns-then-are_inverse
returns-then-are_inverse c =
    let found = c.in-Binary-Or-default-default-default in
    λ _. completes_first c.args.terms.now c.values_fit.ensures c.args.a c.args.b found.first found.second found.field-3
    found.ensures.within.1 found.ensures.within.2 found.ensures.matched.0 found.ensures.matched.1 (rw found.field-0-is at found.ensures.tree) (c.if-are_inverse.ensures refl)

pub returns-else-are_inverse : goal.returns-else-are_inverse
returns-else-are_inverse c =
    let found = c.in-Binary-Or-default-default-default in
    λ h. completes_second c.args.terms.now c.values_fit.ensures c.args.a c.args.b found.first found.second found.field-3
    found.ensures.within.1 found.ensures.within.2 found.ensures.matched.0 found.ensures.matched.1 (rw found.field-0-is at found.ensures.tree) (c.are_inverse-in-Binary-Or-default-default-default.ensures h)
