use Rattle.ir_reader.proofs.Common.{sym, ap, ◌∙◌, subst, err_from_is_err_and, AreNumbered, IsWellFormed, Function, IsFunction, well_formed, without_places, whole}
use Rattle.std.proofs.Common.{Ok}
use Rattle.ir_reader.proofs.Answers.{answers-tested}
use Rattle.ir_reader.proofs.functions.function.Goals as goal

pub test-requires : goal.test-requires
test-requires c = subst AreNumbered (sym c.in_ok-function.ensures) (whole c.in_ok-written.written).numbered

pub returns-in_err-test : goal.returns-in_err-test
returns-in_err-test c =
    let p = err_from_is_err_and c.from_residual-in_err-test.result c.from_residual-in_err-test.ensures.1 in
    rw (p.1, p.2) (answers-tested c.args.tokens.now c.in_ok-written.written c.in_ok-function.function _ c.in_ok-written.ensures c.in_ok-function.ensures c.in_err-test.ensures)

pub returns : goal.returns
returns c =
    subst (λ (f : Function). IsFunction c.args.tokens.now (Ok f)) (sym (c.without_places.ensures ∙ ap without_places c.in_ok-function.ensures))
    (well_formed c.in_ok-written.written c.in_ok-written.ensures (subst IsWellFormed c.in_ok-function.ensures c.in_ok-test.ensures))
