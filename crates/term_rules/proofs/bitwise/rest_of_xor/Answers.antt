use Rattle.term_rules.proofs.BitRules.{xor_first, xor_second}
use Rattle.term_rules.proofs.bitwise.rest_of_xor.Goals as goal

pub returns-in-Binary-Xor-default-default-default : goal.returns-in-Binary-Xor-default-default-default
returns-in-Binary-Xor-default-default-default c =
    let found = c.in-Binary-Xor-default-default-default in
    xor_first c.args.terms.now c.args.a c.args.b found.first found.second found.field-3 (rw found.field-0-is at found.ensures.tree)
    found.ensures.within.1 found.ensures.matched.0 c.if-second-b.true

pub returns-in-Binary-Xor-default-default-default-2 : goal.returns-in-Binary-Xor-default-default-default-2
returns-in-Binary-Xor-default-default-default-2 c =
    let found = c.in-Binary-Xor-default-default-default in
    xor_second c.args.terms.now c.args.a c.args.b found.first found.second found.field-3 (rw found.field-0-is at found.ensures.tree)
    found.ensures.within.2 found.ensures.matched.1 c.if-first-b.true
