use Rattle.term_rules.proofs.Common.{sym, ◌∙◌}
use Rattle.term_rules.proofs.DivisionRules.{low_of_quotient}
use Rattle.term_rules.proofs.divisions.low_quotient.Goals as goal

pub returns-then-width-2 : goal.returns-then-width-2
returns-then-width-2 c =
    let found = c.in-Binary-Udiv-default-default-default in
    let first = c.in_ok-first-in-Binary-Udiv-default-default-default in
    let second = c.in_ok-second-in-Binary-Udiv-default-default-default in
    low_of_quotient c.args.terms.now c.args.q found.a found.b first.first second.second found.field-3 c.args.width c.quotient.result c.values_fit.ensures
    (rw found.field-0-is at found.ensures.tree) found.ensures.matched.0 first.ensures second.ensures (sym c.width.ensures.width ∙ c.if-width.true) c.quotient.ensures
