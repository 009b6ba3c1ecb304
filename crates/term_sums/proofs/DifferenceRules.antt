-- What a difference is that is known by cases.
use Rattle.term_sums.proofs.Common.{ap, ℕ, ◌≡◌, ◌+◌, ◌^◌, List, ◌∙◌, sym, ◌%◌, refl, false, Bool, true, width_of, term_at, tree_in, bit_at, Term, TermId}
use Rattle.term_sums.specs.Polynomials.{AreTrue, IsDifferenceWhere}
use Rattle.term_sums.specs.declared.facts.Fact.{Fact}

-- what holds where a condition is true, and where it is false, holds
pub by_both : (terms : List Term) (facts holding failing : List Fact) (a b condition : TermId) (n m : ℕ) → n ≡ m
    → ((v : ℕ → ℕ → ℕ) → AreTrue v terms facts → bit_at v terms condition ≡ true → AreTrue v terms holding)
    → ((v : ℕ → ℕ → ℕ) → AreTrue v terms facts → bit_at v terms condition ≡ false → AreTrue v terms failing)
    → IsDifferenceWhere terms holding a b n → IsDifferenceWhere terms failing a b m → IsDifferenceWhere terms facts a b n
by_both terms facts holding failing a b condition n m same more less first second = record {
  fits = first.fits;
  says = λ v hold.
      let go : (t : Bool) → bit_at v terms condition ≡ t → term_at v terms a ≡ (term_at v terms b + n) % 2 ^ width_of (tree_in terms a) =
      λ t. elim t as (λ k. bit_at v terms condition ≡ k → term_at v terms a ≡ (term_at v terms b + n) % 2 ^ width_of (tree_in terms a)) [
        | true ↦ λ e. first.says v (more v hold e)
        | false ↦ λ e. second.says v (less v hold e) ∙ ap (λ k. (term_at v terms b + k) % 2 ^ width_of (tree_in terms a)) (sym same)
      ] in
      go (bit_at v terms condition) refl;
}
