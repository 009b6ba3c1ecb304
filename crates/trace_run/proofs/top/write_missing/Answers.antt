use Rattle.std.proofs.Common.{ℕ, List, [], ◌∷◌, ◌++◌, codes, ap, subst}
use Rattle.tv_io.specs.Taken.{IsCutOff}
use Rattle.tv_io.proofs.TakenLemmas.{IsCutOff-first}
use Rattle.module_files.proofs.Pieces.{IsCutOff-second_piece, IsWritten-second_piece, OnErr-always}
use Rattle.trace_run.proofs.top.write_missing.Goals as goal

pub returns-in_err-write_both-clause-cut_off : goal.returns-in_err-write_both-clause-cut_off
returns-in_err-write_both-clause-cut_off g c =
    let name = subst (λ (xs : List ℕ). IsCutOff (codes "no function " ++ xs) (g.K.Sink.state c.args.out.now) (g.K.Sink.state c.write_both.new.out)) c.as_bytes.ensures.value c.in_err-write_both.ensures.cut_off in
    OnErr-always c.from_residual.result (IsCutOff-first _ (codes " in " ++ c.args.request.now.source.now ++ 10 ∷ []) _ _ name)

pub returns-clause-written : goal.returns-clause-written
returns-clause-written g c =
    IsWritten-second_piece c.write_line.result _ _ _ _ _ _ _
    (ap (λ (xs : List ℕ). codes "no function " ++ xs) c.as_bytes.ensures.value)
    (ap (λ (xs : List ℕ). codes " in " ++ xs ++ 10 ∷ []) c.as_bytes-2.ensures.value) c.in_ok-write_both.ensures.written c.write_line.ensures.written

pub returns-clause-cut_off : goal.returns-clause-cut_off
returns-clause-cut_off g c =
    IsCutOff-second_piece c.write_line.result _ _ _ _ _ _ _
    (ap (λ (xs : List ℕ). codes "no function " ++ xs) c.as_bytes.ensures.value)
    (ap (λ (xs : List ℕ). codes " in " ++ xs ++ 10 ∷ []) c.as_bytes-2.ensures.value) c.in_ok-write_both.ensures.written c.write_line.ensures.cut_off
