use Rattle.std.proofs.Common.{ℕ, List, [], ◌∷◌, ◌++◌, codes, refl, subst}
use Rattle.tv_io.specs.Taken.{IsWritten}
use Rattle.tv_io.proofs.TakenLemmas.{IsWritten-append, IsCutOff-first, IsCutOff-second}
use Rattle.module_files.proofs.Pieces.{IsCutOff-second_piece, OnErr-always}
use Rattle.module_files.proofs.lines.write_fault.Goals as goal

pub returns-in_err-write_place-clause-cut_off : goal.returns-in_err-write_place-clause-cut_off
returns-in_err-write_place-clause-cut_off g c =
    let name = subst (λ (xs : List ℕ). IsWritten (xs ++ 58 ∷ []) (g.K.Sink.state c.args.out.now) (g.K.Sink.state c.write_both.new.out)) c.as_bytes.ensures.value c.in_ok-write_both.ensures.written in
    OnErr-always c.from_residual-in_err-write_place.result (IsCutOff-first _ (codes ": " ++ c.args.what.now ++ 10 ∷ []) _ _ (IsCutOff-second _ _ _ _ _ name c.in_err-write_place.ensures.cut_off))

pub returns-clause-cut_off : goal.returns-clause-cut_off
returns-clause-cut_off g c =
    let name = subst (λ (xs : List ℕ). IsWritten (xs ++ 58 ∷ []) (g.K.Sink.state c.args.out.now) (g.K.Sink.state c.write_both.new.out)) c.as_bytes.ensures.value c.in_ok-write_both.ensures.written in
    IsCutOff-second_piece c.write_line.result _ _ _ _ _ _ _ refl refl (IsWritten-append _ _ _ _ _ name c.in_ok-write_place.ensures.written) c.write_line.ensures.cut_off
