use Rattle.proof_text.proofs.Common.{ℕ, ◌∙◌, List, get_or, ap, sym, ⊎_elim, flat_map, escaped}
use Rattle.proof_text.proofs.Escapes.{bare_first, same_inner, word_kind}
use Rattle.proof_text.proofs.names.only_word.Goals as goal

pub returns-clause-only : goal.returns-clause-only
returns-clause-only c = λ own small e.
    let text = c.args.text.now in
    let inner = c.in-Some.ensures.some in
    ⊎_elim
    (λ bare. absurd (bare_first own bare.0 (ap (λ (t : List ℕ). get_or t 0 0) (sym bare.1 ∙ inner))))
    (λ q. c.in_ok-bytes.ensures.only own small (same_inner c.in-Some.inner.now (flat_map escaped own) (sym inner ∙ q)))
    (word_kind text own e)

pub returns-in_default-clause-only : goal.returns-in_default-clause-only
returns-in_default-clause-only c = λ own small e.
    let none = (rw c.in_default.is at c.between_quotes.ensures.none) in
    ⊎_elim
    (λ bare. c.in_ok-from_slice.ensures.items ∙ bare.1)
    (λ q. absurd (none (flat_map escaped own) q))
    (word_kind c.args.text.now own e)
