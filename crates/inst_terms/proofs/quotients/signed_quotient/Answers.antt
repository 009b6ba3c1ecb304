use Rattle.inst_terms.proofs.Common.{keeps_trans}
use Rattle.inst_terms.proofs.quotients.signed_quotient.Goals as goal

pub returns-clause-kept : goal.returns-clause-kept
returns-clause-kept c =
    let old = c.args.terms.now in
    let kept2 = keeps_trans old c.magnitude.new.terms c.magnitude-2.new.terms c.magnitude.ensures.kept c.magnitude-2.ensures.kept in
    let kept3 = keeps_trans old c.magnitude-2.new.terms c.udiv.new.terms kept2 c.udiv.ensures.kept in
    let kept4 = keeps_trans old c.udiv.new.terms c.signs_differ.new.terms kept3 c.signs_differ.ensures.kept in
    let kept5 = keeps_trans old c.signs_differ.new.terms c.negated_where.new.terms kept4 c.negated_where.ensures.kept in
    keeps_trans old c.negated_where.new.terms c.leaves_a_rest_where.new.terms kept5 c.leaves_a_rest_where.ensures.kept
