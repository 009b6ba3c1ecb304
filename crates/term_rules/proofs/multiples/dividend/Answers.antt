use Rattle.term_rules.proofs.MultipleRules.{dividend_part}
use Rattle.term_rules.proofs.multiples.dividend.Goals as goal

pub returns-in-Some : goal.returns-in-Some
returns-in-Some c =
    let found = c.in-Binary-Urem-default-default-default in
    dividend_part c.args.terms.now c.args.a c.args.b found.whole c.in-Some.first found.second found.field-3 c.values_fit.ensures
    (rw found.field-0-is at found.ensures.tree) found.ensures.within.1 c.if-first-second.true c.in-Some.ensures
