use Rattle.term_rules.proofs.FactorRules.{cofactor_first}
use Rattle.term_rules.proofs.factors.cofactor.Goals as goal

pub returns-in-Binary-Mul-default-default-default-2 : goal.returns-in-Binary-Mul-default-default-default-2
returns-in-Binary-Mul-default-default-default-2 c =
    let found = c.in-Binary-Mul-default-default-default in
    cofactor_first c.args.terms.now c.args.a c.args.common found.first found.second found.field-3 (rw found.field-0-is at found.ensures.tree)
    found.ensures.within.1 found.ensures.matched.0 found.ensures.matched.1 c.if-second-common.true
