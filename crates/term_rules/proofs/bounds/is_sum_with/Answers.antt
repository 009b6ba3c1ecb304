use Rattle.term_rules.proofs.Common.{refl, eqb-true}
use Rattle.term_rules.proofs.BoundRules.{sum_with_first, sum_with_second}
use Rattle.term_rules.proofs.bounds.is_sum_with.Goals as goal

pub returns-then-first-b : goal.returns-then-first-b
returns-then-first-b c =
    let found = c.in-Binary-Add-default-default-default in
    λ h. sum_with_first c.args.terms.now c.args.a c.args.b found.first found.second found.field-3 (rw found.field-0-is at found.ensures.tree) found.ensures.within.0.0
    found.ensures.matched.0 found.ensures.matched.1 (c.if-is_small.ensures refl) (c.if-is_small-2.ensures refl) c.if-first-b.true

pub returns-else-first-b : goal.returns-else-first-b
returns-else-first-b c =
    let found = c.in-Binary-Add-default-default-default in
    λ h. sum_with_second c.args.terms.now c.args.a c.args.b found.first found.second found.field-3 (rw found.field-0-is at found.ensures.tree) found.ensures.within.0.0
    found.ensures.matched.0 found.ensures.matched.1 (c.if-is_small.ensures refl) (c.if-is_small-2.ensures refl) (eqb-true found.second.index c.args.b.index h)
