use Rattle.std.proofs.Common.{ℕ, ◌<◌, All, List, ap, inr, subst, ◌∙◌}
use Rattle.std.proofs.lemmas.Result.{IfOk-weaker}
use Rattle.ir_naming.specs.Naming.{name_text}
use Rattle.proof_files.proofs.writing.printed_name.Goals as goal

pub returns-in-Word-clause-printed : goal.returns-in-Word-clause-printed
returns-in-Word-clause-printed c =
    let small = subst (λ (bs : List ℕ). All (λ b. b < 256) bs) c.as_slice.ensures c.are_bytes.ensures in
    IfOk-weaker c.name_text-in-Word.result _ _ (λ text e. inr (c.in-Word.bytes, small, e ∙ ap name_text c.in-Word.is)) c.name_text-in-Word.ensures
