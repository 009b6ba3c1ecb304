use Rattle.term_rules.proofs.Common.{◌+◌, arith, ltb-true}
use Rattle.term_rules.proofs.BoundRules.{product_is_small, zext_small}
use Rattle.term_rules.proofs.bounds.is_small.Goals as goal

pub returns-in-Zext : goal.returns-in-Zext
returns-in-Zext c = λ h. zext_small c.args.terms.now c.args.a c.in-Zext.inner c.in-Zext.width c.values_fit.ensures c.in-Zext.ensures.tree c.in-Zext.ensures.within.1
    (omega (arith, ltb-true c.width.result c.width-width.result h, c.width.ensures.width, c.width-width.ensures.width))

pub returns-in-Binary-Mul-default-default-default : goal.returns-in-Binary-Mul-default-default-default
returns-in-Binary-Mul-default-default-default c =
    let found = c.in-Binary-Mul-default-default-default in
    λ h. product_is_small c.args.terms.now c.args.a found.first found.second found.field-3 c.bits_before.result c.bits_before-in-Binary-Mul-default-default-default.result (rw found.field-0-is at found.ensures.tree)
    (omega (arith, ltb-true (c.bits_before.result + c.bits_before-in-Binary-Mul-default-default-default.result) c.width-width.result h, c.width-width.ensures.width)) c.bits_before.ensures.range c.bits_before-in-Binary-Mul-default-default-default.ensures.range
