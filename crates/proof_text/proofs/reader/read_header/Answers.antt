use Rattle.proof_text.proofs.Common.{◌∷◌, [], subst, true, err_from_is_err_and, head_line, File, Limits, Moves, Rest, Rows, first_line}
use Rattle.proof_text.proofs.Moves.{moves_then, stopped_after}
use Rattle.proof_text.proofs.reader.read_header.Goals as goal

pub returns-in_err-read_head-clause-err : goal.returns-in_err-read_head-clause-err
returns-in_err-read_head-clause-err c =
    let mid = c.read_format.new.lines in
    let moved = subst (λ b. Moves File c.args.lines.now (first_line b ∷ []) (Rest b) mid) c.if-branch.true c.in_ok-read_format.ensures.ok in
    let p = err_from_is_err_and c.from_residual-in_err-read_head.result c.from_residual-in_err-read_head.ensures.1 in
    rw (p.1, p.2) (stopped_after File Limits c.args.lines.now mid (first_line true ∷ []) c.in_err-read_head.field-0.0 moved c.in_err-read_head.ensures.err)

pub returns-in_ok-read_head-clause-ok : goal.returns-in_ok-read_head-clause-ok
returns-in_ok-read_head-clause-ok c =
    let mid = c.read_format.new.lines in
    let moved = subst (λ b. Moves File c.args.lines.now (first_line b ∷ []) (Rest b) mid) c.if-branch.true c.in_ok-read_format.ensures.ok in
    let read = c.in_ok-read_head.ensures.ok in
    (read.0, moves_then File Limits Rows c.args.lines.now mid c.read_head.new.lines (first_line true ∷ []) (head_line c.in_ok-read_head.field-0 ∷ []) moved read.1)

pub returns-else-branch-clause-ok : goal.returns-else-branch-clause-ok
returns-else-branch-clause-ok c = (tt, subst (λ b. Moves File c.args.lines.now (first_line b ∷ []) (Rest b) c.read_format.new.lines) c.if-branch.false c.in_ok-read_format.ensures.ok)
