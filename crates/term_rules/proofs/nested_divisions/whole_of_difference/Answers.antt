use Rattle.term_rules.proofs.DivisionRules.{whole_without_rest}
use Rattle.term_rules.proofs.nested_divisions.whole_of_difference.Goals as goal

pub returns-in-Binary-Urem-default-default-default : goal.returns-in-Binary-Urem-default-default-default
returns-in-Binary-Urem-default-default-default c =
    let found = c.in-Binary-Sub-default-default-default in
    let rest = c.in-Binary-Urem-default-default-default in
    whole_without_rest c.args.terms.now c.args.a c.args.b found.whole found.taken rest.first rest.second found.field-3 rest.field-3 c.values_fit.ensures
    (rw found.field-0-is at found.ensures.tree) (rw rest.field-0-is at rest.ensures.tree) found.ensures.within.1 c.requires.b
    found.ensures.matched.0 found.ensures.matched.1 rest.ensures.matched.1 c.if-first-whole.true c.if-second-b.true
