use Rattle.term_rules.proofs.Common.{refl}
use Rattle.term_rules.proofs.WrappingRules.{exact_shift}
use Rattle.term_rules.proofs.wrapping.amount.Goals as goal

pub returns-then-is_plain : goal.returns-then-is_plain
returns-then-is_plain c =
    let found = c.in-Binary-Shl-default-default-default in
    exact_shift c.args.terms.now c.args.p c.args.a c.args.b found.x found.amount found.field-3 (rw found.field-0-is at found.ensures.tree)
    found.ensures.within.2 found.ensures.matched.1 (c.if-is_plain.ensures refl) c.if-x-b.true
