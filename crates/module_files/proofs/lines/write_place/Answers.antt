use Rattle.std.proofs.Common.{ℕ, List, [], ◌∷◌, ◌++◌, ap, ◌∙◌}
use Rattle.module_files.proofs.Pieces.{IsCutOff-second_piece}
use Rattle.module_files.proofs.lines.write_place.Goals as goal

pub returns-clause-cut_off : goal.returns-clause-cut_off
returns-clause-cut_off g c =
    IsCutOff-second_piece _ _ _ _ _ _ _ _
    (ap (λ (bytes : List ℕ). bytes ++ 58 ∷ []) (c.as_bytes.ensures.value ∙ c.format.ensures.text))
    (c.as_bytes-2.ensures.value ∙ c.format-2.ensures.text) c.in_ok-write_both.ensures.written c.write_whole.ensures.cut_off
