use Rattle.term_rules.proofs.Common.{eqb-true}
use Rattle.term_rules.proofs.BitRules.{in_and_first, in_and_second, or_where_lesser}
use Rattle.term_rules.proofs.bitwise.is_in_and.Goals as goal

pub returns-then-first-b-clause-and : goal.returns-then-first-b-clause-and
returns-then-first-b-clause-and c =
    let found = c.in-Binary-And-default-default-default in
    λ h. in_and_first c.args.terms.now c.args.a c.args.b found.first found.second found.field-3 (rw found.field-0-is at found.ensures.tree) c.if-first-b.true

pub returns-then-first-b-clause-or : goal.returns-then-first-b-clause-or
returns-then-first-b-clause-or c =
    let found = c.in-Binary-And-default-default-default in
    λ h. or_where_lesser c.args.terms.now c.args.a c.args.b
    (in_and_first c.args.terms.now c.args.a c.args.b found.first found.second found.field-3 (rw found.field-0-is at found.ensures.tree) c.if-first-b.true)

pub returns-else-first-b-clause-and : goal.returns-else-first-b-clause-and
returns-else-first-b-clause-and c =
    let found = c.in-Binary-And-default-default-default in
    λ h. in_and_second c.args.terms.now c.args.a c.args.b found.first found.second found.field-3 (rw found.field-0-is at found.ensures.tree)
    (eqb-true found.second.index c.args.b.index h)

pub returns-else-first-b-clause-or : goal.returns-else-first-b-clause-or
returns-else-first-b-clause-or c =
    let found = c.in-Binary-And-default-default-default in
    λ h. or_where_lesser c.args.terms.now c.args.a c.args.b
    (in_and_second c.args.terms.now c.args.a c.args.b found.first found.second found.field-3 (rw found.field-0-is at found.ensures.tree) (eqb-true found.second.index c.args.b.index h))
