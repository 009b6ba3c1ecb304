use Rattle.proof_text.proofs.Common.{◌≡◌, All-push, err_from_is_err_and, Part, IsPart, proof_lines, proof_with, File, Rows}
use Rattle.proof_text.proofs.Moves.{stopped_after}
use Rattle.proof_text.proofs.Reading.{parts_push}
use Rattle.proof_text.proofs.reader.read_proof.Goals as goal

pub returns-in_err-read_part-clause-err : goal.returns-in_err-read_part-clause-err
returns-in_err-read_part-clause-err c =
    let i = c.loop-lines in
    let p = err_from_is_err_and c.from_residual-in_err-read_part.result c.from_residual-in_err-read_part.ensures.1 in
    rw (p.1, p.2) (stopped_after File Rows c.args.text.now i.lines (proof_lines (proof_with c.in_ok-head.head i.parts)) c.in_err-read_part.field-0.0 i.invariant.moves c.in_err-read_part.ensures.err)

pub loop-lines-preserved : goal.loop-lines-preserved
loop-lines-preserved c =
    let i = c.loop-lines in
    let x = c.in_ok-read_part.field-0 in
    let one = c.in_ok-read_part.ensures.ok in
    let pushed = c.in_ok-push.ensures.ok in
    record {
      head = i.invariant.head;
      fit = rw pushed (All-push IsPart i.parts x i.invariant.fit one.0);
      fronts = rw pushed (All-push (λ (p : Part). p.cert.cnf.front ≡ 0) i.parts x i.invariant.fronts one.1);
      moves = rw pushed (parts_push c.args.text.now i.lines c.read_part.new.lines c.in_ok-head.head i.parts x i.invariant.moves one.2);
    }
