use Rattle.term_rules.proofs.SumRules.{product_shifted}
use Rattle.term_rules.proofs.arithmetic.multiplied.Goals as goal

pub returns-in-Some : goal.returns-in-Some
returns-in-Some c = product_shifted c.args.terms.now c.args.a c.args.b c.args.by c.in-Some.exponent c.width-width.result c.requires.a
    c.width-width.ensures.range c.width-width.ensures.width c.requires.by.says c.in-Some.ensures.0 c.in-Some.ensures.1
