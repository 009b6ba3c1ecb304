use Rattle.proof_text.proofs.Common.{◌≡◌, ◌-◌, ◌+◌, ◌∷◌, [], length, map, subst, ap, arith, length_push, All-push, err_from_is_err_and, IsStepOver, step_line, Moves, Rows, Steps}
use Rattle.proof_text.proofs.Languages.{many_done}
use Rattle.proof_text.proofs.Moves.{moves_on, moves_push, stopped_after}
use Rattle.proof_text.proofs.reader.read_steps.Goals as goal

pub returns-in_err-read_step-clause-err : goal.returns-in_err-read_step-clause-err
returns-in_err-read_step-clause-err c =
    let v = c.args.variables in
    let n = c.args.count in
    let i = c.loop-index in
    let p = err_from_is_err_and c.from_residual.result c.from_residual.ensures.1 in
    rw (p.1, p.2) (stopped_after (Steps v n) (Steps v (n - i.index)) c.args.lines.now i.lines (map step_line i.all) c.in_err-read_step.field-0.0 i.invariant.moves c.in_err-read_step.ensures.err)

pub loop-index-preserved : goal.loop-index-preserved
loop-index-preserved c =
    let v = c.args.variables in
    let n = c.args.count in
    let i = c.loop-index in
    let all = i.all in
    let x = c.in_ok-read_step.field-0 in
    let new = c.read_step.new.lines in
    let one = c.in_ok-read_step.ensures.ok in
    let pushed = c.in_ok-push.ensures.ok in
    let fewer : n - i.index - 1 ≡ n - (i.index + 1) = omega arith in
    let moved = subst (λ k. Moves (Steps v (n - i.index)) i.lines (map step_line (x ∷ [])) (Steps v k) new) fewer one.1 in
    record {
      count = omega (arith, ap length pushed, length_push all x);
      fit = rw pushed (All-push (IsStepOver v) all x i.invariant.fit one.0);
      moves = rw pushed (moves_push step_line (Steps v n) (Steps v (n - i.index)) (Steps v (n - (i.index + 1))) c.args.lines.now i.lines new all x i.invariant.moves moved);
    }

pub returns-clause-ok : goal.returns-clause-ok
returns-clause-ok c =
    let v = c.args.variables in
    let n = c.args.count in
    let i = c.loop-index in
    (omega arith, i.invariant.fit, moves_on (Steps v n) (Steps v (n - i.index)) Rows c.args.lines.now i.lines (map step_line i.all) i.invariant.moves (many_done (IsStepOver v) step_line Rows (n - i.index) (omega arith)))
