use Rattle.proof_text.proofs.Common.{ℕ, ◌≡◌, ◌∙◌, List, ap, sym, slice_eq-Decides, Decides-eqb, name_text, Word}
use Rattle.proof_text.proofs.names.is_printed_word.Goals as goal

pub returns : goal.returns
returns c =
    let text = c.args.text.now in
    let own = c.in_ok-only_word.field-0.items in
    let same = slice_eq-Decides Decides-eqb c.as_slice.result.now text c.eq.result c.eq.ensures in
    let written : c.as_slice.result.now ≡ name_text (Word own) = c.as_slice.ensures.value ∙ c.in_ok-name_text.ensures ∙ ap (λ (b : List ℕ). name_text (Word b)) c.from_vec.ensures in (
      λ t. (own, c.in_ok-only_word.ensures.small, sym (same.0 t) ∙ written),
      λ p. same.1 (written ∙ ap (λ (b : List ℕ). name_text (Word b)) (c.in_ok-only_word.ensures.only p.0 p.1 p.2) ∙ sym p.2),
    )
