use Rattle.term_rules.proofs.WrappingRules.{factor_leaves_none, shift_leaves_none}
use Rattle.term_rules.proofs.wrapping.is_multiple.Goals as goal

pub returns-in-Some : goal.returns-in-Some
returns-in-Some c _ = factor_leaves_none c.args.terms.now c.args.p c.args.a c.args.b c.in-Some._factor c.in-Some.ensures

pub returns-in-Some-amount : goal.returns-in-Some-amount
returns-in-Some-amount c _ = shift_leaves_none c.args.terms.now c.args.p c.args.a c.args.b c.in-Some-amount._by c.in-Some-amount.ensures
