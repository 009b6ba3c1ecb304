use Rattle.ir_reader.proofs.Common.{err_from_is_err_and}
use Rattle.ir_reader.proofs.Answers.{names-tested, types-tested, edges-tested, assigned-tested, undef-tested}
use Rattle.ir_reader.proofs.functions.test.Goals as goal

pub returns-in_err-check_names_with : goal.returns-in_err-check_names_with
returns-in_err-check_names_with c =
    let p = err_from_is_err_and c.from_residual-in_err-check_names_with.result c.from_residual-in_err-check_names_with.ensures.1 in
    rw (p.1, p.2) (names-tested c.args.f.now _ c.in_err-check_names_with.ensures.refused)

pub returns-in_err-check_types_with : goal.returns-in_err-check_types_with
returns-in_err-check_types_with c =
    let p = err_from_is_err_and c.from_residual-in_err-check_types_with.result c.from_residual-in_err-check_types_with.ensures.1 in
    rw (p.1, p.2) (types-tested c.args.f.now _ c.in_ok-check_names_with.ensures.passes c.in_err-check_types_with.ensures.refused)

pub returns-in_err-check_edges_with : goal.returns-in_err-check_edges_with
returns-in_err-check_edges_with c =
    let p = err_from_is_err_and c.from_residual-in_err-check_edges_with.result c.from_residual-in_err-check_edges_with.ensures.1 in
    rw (p.1, p.2) (edges-tested c.args.f.now _ c.in_ok-check_names_with.ensures.passes c.in_ok-check_types_with.ensures.passes c.in_err-check_edges_with.ensures.refused)

pub returns-in_err-check_assigned_with : goal.returns-in_err-check_assigned_with
returns-in_err-check_assigned_with c =
    let p = err_from_is_err_and c.from_residual-in_err-check_assigned_with.result c.from_residual-in_err-check_assigned_with.ensures.1 in
    rw (p.1, p.2) (assigned-tested c.args.f.now _ c.in_ok-check_names_with.ensures.passes c.in_ok-check_types_with.ensures.passes c.in_ok-check_edges_with.ensures.passes c.in_err-check_assigned_with.ensures.refused)

pub returns-in_err-check_undef : goal.returns-in_err-check_undef
returns-in_err-check_undef c =
    let p = err_from_is_err_and c.from_residual-in_err-check_undef.result c.from_residual-in_err-check_undef.ensures.1 in
    rw (p.1, p.2)
    (undef-tested c.args.f.now _ c.in_ok-check_names_with.ensures.passes c.in_ok-check_types_with.ensures.passes c.in_ok-check_edges_with.ensures.passes c.in_ok-check_assigned_with.ensures.passes c.in_err-check_undef.ensures.refused)
