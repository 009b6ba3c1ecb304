use Rattle.term_rules.proofs.Common.{◌≤◌, arith, subst}
use Rattle.term_rules.proofs.LowRules.{low_of_sext, low_of_zext}
use Rattle.term_rules.proofs.low_bits.narrow.Goals as goal

pub returns-in-Zext : goal.returns-in-Zext
returns-in-Zext c = low_of_zext c.args.terms.now c.args.a c.in-Zext.inner c.args.width c.in-Zext.width c.widened.result c.values_fit.ensures c.in-Zext.ensures.within.1
    (subst (λ n. n ≤ c.args.width) c.width.ensures.width c.if-width.true) c.in-Zext.ensures.tree c.widened.ensures

pub returns-in-Sext : goal.returns-in-Sext
returns-in-Sext c = low_of_sext c.args.terms.now c.args.a c.in-Sext.inner c.args.width c.in-Sext.width c.widened_signed.result c.values_fit.ensures c.in-Sext.ensures.within.1
    (omega (arith, c.if-width-2.true)) c.in-Sext.from c.in-Sext.ensures.tree c.in-Sext.ensures.matched.0 c.requires.most c.widened_signed.ensures
