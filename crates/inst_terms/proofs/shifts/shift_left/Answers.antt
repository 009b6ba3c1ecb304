use Rattle.inst_terms.proofs.Common.{keeps_trans}
use Rattle.inst_terms.proofs.shifts.shift_left.Goals as goal

pub returns-clause-kept : goal.returns-clause-kept
returns-clause-kept c =
    let old = c.args.terms.now in
    let kept2 = keeps_trans old c.shl.new.terms c.is_past.new.terms c.shl.ensures.kept c.is_past.ensures.kept in
    let kept3 = keeps_trans old c.is_past.new.terms c.is_other_below_where.new.terms kept2 c.is_other_below_where.ensures.kept in
    let kept4 = keeps_trans old c.is_other_below_where.new.terms c.is_other_below_signed_where.new.terms kept3 c.is_other_below_signed_where.ensures.kept in
    let kept5 = keeps_trans old c.is_other_below_signed_where.new.terms c.either.new.terms kept4 c.either.ensures.kept in
    keeps_trans old c.either.new.terms c.either-2.new.terms kept5 c.either-2.ensures.kept
