use Rattle.term_rules.proofs.LowRules.{narrow_first, narrow_second}
use Rattle.term_rules.proofs.low_bits.first_narrow.Goals as goal

pub returns-in-Some : goal.returns-in-Some
returns-in-Some c = narrow_first c.args.terms.now c.args.a c.args.width c.in_ok-whole.whole c.in-Some.form c.values_fit.ensures c.requires.most c.in_ok-whole.ensures c.in-Some.ensures

pub returns : goal.returns
returns c = narrow_second c.args.terms.now c.args.a c.args.width c.in_ok-whole.whole c.in_ok-form.form c.values_fit.ensures c.requires.most c.in_ok-whole.ensures
    c.turned-kind.result c.turned-kind.ensures c.in_ok-form.ensures
