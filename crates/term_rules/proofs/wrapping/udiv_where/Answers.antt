use Rattle.std.proofs.lemmas.Nat.{pow_below}
use Rattle.term_rules.proofs.Common.{ap, arith, weight_of}
use Rattle.term_rules.proofs.WrappingRules.{factor_is_quotient, shifted_quotient}
use Rattle.term_rules.proofs.wrapping.udiv_where.Goals as goal

pub returns-in-Some-clause-says : goal.returns-in-Some-clause-says
returns-in-Some-clause-says c = factor_is_quotient c.args.terms.now c.args.poison c.args.a c.args.b c.in-Some.factor c.in-Some.ensures

pub constant-requires-clause-fits : goal.constant-requires-clause-fits
constant-requires-clause-fits c = pow_below 0 c.width-width.result c.width-width.ensures.range.0

pub returns-in-Some-amount-clause-says : goal.returns-in-Some-amount-clause-says
returns-in-Some-amount-clause-says c = shifted_quotient c.args.terms.now c.constant.new.terms c.shl.new.terms c.args.poison c.args.a c.args.b c.in-Some-amount.by c.in_ok-one.one c.in_ok-id.id
    c.width-width.result c.in-Some-amount.ensures c.width-width.ensures.width c.in_ok-one.ensures.made c.constant.ensures.kept c.in_ok-id.ensures.made

pub returns-in-Some-clause-least : goal.returns-in-Some-clause-least
returns-in-Some-clause-least c = omega (arith, c.in-Some.ensures.least)

pub returns-in-Some-amount-clause-least : goal.returns-in-Some-amount-clause-least
returns-in-Some-amount-clause-least c =
    let shift = c.in-Some-amount.ensures in
    omega (arith, c.in_ok-id.ensures.least, c.in_ok-one.ensures.least, ap weight_of (c.constant.ensures.kept.kept c.in-Some-amount.by shift.within), shift.least)
