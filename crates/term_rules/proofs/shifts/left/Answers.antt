use Rattle.term_rules.proofs.OtherRules.{left_of_zero}
use Rattle.term_rules.proofs.shifts.left.Goals as goal

pub returns-in-Some : goal.returns-in-Some
returns-in-Some c = left_of_zero c.args.terms.now c.args.a c.args.b c.in-Some.count c.width-width.result c.values_fit.ensures c.requires.a
    c.width-width.ensures.range c.width-width.ensures.width c.if-count-eq0.true c.in-Some.ensures.says
