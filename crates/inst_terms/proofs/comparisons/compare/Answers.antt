use Rattle.inst_terms.proofs.Common.{keeps_trans}
use Rattle.inst_terms.proofs.Wholes.{compare-stands}
use Rattle.inst_terms.proofs.comparisons.compare.Goals as goal

pub returns-clause-stands : goal.returns-clause-stands
returns-clause-stands c =
    compare-stands c.args.terms.now c.narrowed.new.terms c.narrowed-2.new.terms c.are_unlike.new.terms c.either.new.terms c.holds_where.new.terms c.either-2.new.terms c.truth_value.new.terms c.args.predicate c.args.same_sign c.args.width.bits c.args.left c.args.right
    c.in_ok-a.a c.in_ok-b.b c.in_ok-unlike.unlike c.in_ok-operands.operands c.in_ok-test.test c.in_ok-poison.poison c.in_ok-value.value c.requires.left c.requires.right
    c.narrowed.ensures.kept c.in_ok-a.ensures.poison c.in_ok-a.ensures.number c.narrowed-2.ensures.kept c.in_ok-b.ensures.poison c.in_ok-b.ensures.number
    c.are_unlike.ensures.kept c.in_ok-unlike.ensures.made c.either.ensures.kept c.in_ok-operands.ensures.made c.holds_where.ensures.kept c.in_ok-test.ensures.made c.in_ok-test.ensures.says c.either-2.ensures.kept c.in_ok-poison.ensures.made c.in_ok-value.ensures.stands

pub returns-clause-kept : goal.returns-clause-kept
returns-clause-kept c =
    let old = c.args.terms.now in
    let kept2 = keeps_trans old c.narrowed.new.terms c.narrowed-2.new.terms c.narrowed.ensures.kept c.narrowed-2.ensures.kept in
    let kept3 = keeps_trans old c.narrowed-2.new.terms c.are_unlike.new.terms kept2 c.are_unlike.ensures.kept in
    let kept4 = keeps_trans old c.are_unlike.new.terms c.either.new.terms kept3 c.either.ensures.kept in
    let kept5 = keeps_trans old c.either.new.terms c.holds_where.new.terms kept4 c.holds_where.ensures.kept in
    let kept6 = keeps_trans old c.holds_where.new.terms c.either-2.new.terms kept5 c.either-2.ensures.kept in
    keeps_trans old c.either-2.new.terms c.truth_value.new.terms kept6 c.truth_value.ensures.kept
