use Rattle.inst_terms.proofs.Common.{keeps_trans}
use Rattle.inst_terms.proofs.Wholes.{binary-stands}
use Rattle.inst_terms.proofs.binary_operations.binary.Goals as goal

pub returns-clause-stands : goal.returns-clause-stands
returns-clause-stands c =
    binary-stands c.args.terms.now c.narrowed.new.terms c.narrowed-2.new.terms c.is_undefined.new.terms c.either.new.terms c.on_numbers.new.terms c.either-2.new.terms c.widened.new.terms c.args.op c.args.width.bits c.args.left c.args.right
    c.in_ok-a.a c.in_ok-b.b c.in_ok-row.row c.in_ok-undefined.undefined c.in_ok-operands.operands c.in_ok-poison.poison c.in_ok-value.value c.requires.left c.requires.right
    c.narrowed.ensures.kept c.in_ok-a.ensures.poison c.in_ok-a.ensures.number c.narrowed-2.ensures.kept c.in_ok-b.ensures.poison c.in_ok-b.ensures.number
    c.is_undefined.ensures.kept c.in_ok-undefined.ensures.made c.either.ensures.kept c.in_ok-operands.ensures.made c.on_numbers.ensures.kept c.in_ok-row.ensures.made c.in_ok-row.ensures.stands
    c.either-2.ensures.kept c.in_ok-poison.ensures.made c.widened.ensures.kept c.in_ok-value.ensures.stands

pub returns-clause-kept : goal.returns-clause-kept
returns-clause-kept c =
    let old = c.args.terms.now in
    let kept2 = keeps_trans old c.narrowed.new.terms c.narrowed-2.new.terms c.narrowed.ensures.kept c.narrowed-2.ensures.kept in
    let kept3 = keeps_trans old c.narrowed-2.new.terms c.is_undefined.new.terms kept2 c.is_undefined.ensures.kept in
    let kept4 = keeps_trans old c.is_undefined.new.terms c.either.new.terms kept3 c.either.ensures.kept in
    let kept5 = keeps_trans old c.either.new.terms c.on_numbers.new.terms kept4 c.on_numbers.ensures.kept in
    let kept6 = keeps_trans old c.on_numbers.new.terms c.either-2.new.terms kept5 c.either-2.ensures.kept in
    keeps_trans old c.either-2.new.terms c.widened.new.terms kept6 c.widened.ensures.kept
