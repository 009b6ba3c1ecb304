use Rattle.tv_run.proofs.Common.{ℕ, List, [], ◌∷◌, ◌++◌, codes, refl, subst, ◌∙◌, IsCutOff, IsWritten, IsWritten-append, IsCutOff-first, IsCutOff-second}
use Rattle.module_files.proofs.Pieces.{IsCutOff-second_piece, OnErr-always}
use Rattle.tv_run.proofs.lines.write_line_fault.Goals as goal

pub returns-in_err-write_whole-clause-cut_off : goal.returns-in_err-write_whole-clause-cut_off
returns-in_err-write_whole-clause-cut_off g c =
    let name = subst (λ (xs : List ℕ). IsWritten (xs ++ 58 ∷ []) (g.K.Sink.state c.args.out.now) (g.K.Sink.state c.write_both.new.out)) c.as_bytes.ensures.value c.in_ok-write_both.ensures.written in
    let number = subst (λ (xs : List ℕ). IsCutOff xs (g.K.Sink.state c.write_both.new.out) (g.K.Sink.state c.write_whole.new.out)) (c.as_bytes-2.ensures.value ∙ c.format.ensures.text) c.in_err-write_whole.ensures.cut_off in
    OnErr-always c.from_residual-in_err-write_whole.result (IsCutOff-first _ (codes ": " ++ c.args.what.now ++ 10 ∷ []) _ _ (IsCutOff-second _ _ _ _ _ name number))

pub returns-clause-cut_off : goal.returns-clause-cut_off
returns-clause-cut_off g c =
    let name = subst (λ (xs : List ℕ). IsWritten (xs ++ 58 ∷ []) (g.K.Sink.state c.args.out.now) (g.K.Sink.state c.write_both.new.out)) c.as_bytes.ensures.value c.in_ok-write_both.ensures.written in
    let number = subst (λ (xs : List ℕ). IsWritten xs (g.K.Sink.state c.write_both.new.out) (g.K.Sink.state c.write_whole.new.out)) (c.as_bytes-2.ensures.value ∙ c.format.ensures.text) c.in_ok-write_whole.ensures.written in
    IsCutOff-second_piece c.write_line.result _ _ _ _ _ _ _ refl refl (IsWritten-append _ _ _ _ _ name number) c.write_line.ensures.cut_off
