use Rattle.term_rules.proofs.Common.{eqb-true}
use Rattle.term_rules.proofs.BitRules.{in_or_first, in_or_second, or_where_greater}
use Rattle.term_rules.proofs.bitwise.is_in_or.Goals as goal

pub returns-then-first-b-clause-and : goal.returns-then-first-b-clause-and
returns-then-first-b-clause-and c =
    let found = c.in-Binary-Or-default-default-default in
    λ h. in_or_first c.args.terms.now c.args.a c.args.b found.first found.second found.field-3 (rw found.field-0-is at found.ensures.tree) c.if-first-b.true

pub returns-then-first-b-clause-or : goal.returns-then-first-b-clause-or
returns-then-first-b-clause-or c =
    let found = c.in-Binary-Or-default-default-default in
    λ h. or_where_greater c.args.terms.now c.args.a c.args.b
    (in_or_first c.args.terms.now c.args.a c.args.b found.first found.second found.field-3 (rw found.field-0-is at found.ensures.tree) c.if-first-b.true)

pub returns-else-first-b-clause-and : goal.returns-else-first-b-clause-and
returns-else-first-b-clause-and c =
    let found = c.in-Binary-Or-default-default-default in
    λ h. in_or_second c.args.terms.now c.args.a c.args.b found.first found.second found.field-3 (rw found.field-0-is at found.ensures.tree)
    (eqb-true found.second.index c.args.b.index h)

pub returns-else-first-b-clause-or : goal.returns-else-first-b-clause-or
returns-else-first-b-clause-or c =
    let found = c.in-Binary-Or-default-default-default in
    λ h. or_where_greater c.args.terms.now c.args.a c.args.b
    (in_or_second c.args.terms.now c.args.a c.args.b found.first found.second found.field-3 (rw found.field-0-is at found.ensures.tree) (eqb-true found.second.index c.args.b.index h))
