use Rattle.term_rules.proofs.DivisionRules.{quotient_of_whole}
use Rattle.term_rules.proofs.divisions.quotient.Goals as goal

pub returns-in-Some : goal.returns-in-Some
returns-in-Some c = quotient_of_whole c.args.terms.now c.args.a c.args.b c.in-Some.whole c.width-width.result c.values_fit.ensures
    c.width-width.ensures.range c.width-width.ensures.width c.in-Some.ensures c.requires.b
