use Rattle.inst_terms.proofs.Common.{keeps_trans}
use Rattle.inst_terms.proofs.quotients.signed_remainder.Goals as goal

pub returns-clause-kept : goal.returns-clause-kept
returns-clause-kept c =
    let old = c.args.terms.now in
    let kept2 = keeps_trans old c.magnitude.new.terms c.magnitude-2.new.terms c.magnitude.ensures.kept c.magnitude-2.ensures.kept in
    let kept3 = keeps_trans old c.magnitude-2.new.terms c.urem.new.terms kept2 c.urem.ensures.kept in
    let kept4 = keeps_trans old c.urem.new.terms c.sign.new.terms kept3 c.sign.ensures.kept in
    let kept5 = keeps_trans old c.sign.new.terms c.negated_where.new.terms kept4 c.negated_where.ensures.kept in
    keeps_trans old c.negated_where.new.terms c.truth.new.terms kept5 c.truth.ensures.kept
