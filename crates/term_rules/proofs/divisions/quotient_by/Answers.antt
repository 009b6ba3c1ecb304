use Rattle.term_rules.proofs.DivisionRules.{quotient_at_once}
use Rattle.term_rules.proofs.divisions.quotient_by.Goals as goal

pub returns-in-Some-product_within : goal.returns-in-Some-product_within
returns-in-Some-product_within c = quotient_at_once c.args.terms.now c.args.a c.args.b c.in-Some.inner c.args.by c.in-Some-product_within.product c.width-width.result
    c.width-width.ensures.range c.width-width.ensures.width c.requires.by.says c.in-Some.ensures c.in-Some-product_within.ensures.0 c.in-Some-product_within.ensures.1
