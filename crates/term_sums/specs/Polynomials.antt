-- The values of sums of products.
use Rattle.std.specs.Prelude.{ℕ, ◌≡◌, ◌<◌, ◌+◌, ◌-◌, ◌*◌, ◌%◌, ◌^◌, All, List, [], ◌∷◌}
use Rattle.bv_terms.specs.declared.term.Term.{Term}
use Rattle.bv_terms.specs.declared.term.TermId.{TermId}
use Rattle.bv_terms.specs.Tree.{quotient, shifted_left, width_of}
use Rattle.bv_terms.specs.Trees.{bit_at, term_at, tree_in}
use Rattle.term_sums.specs.declared.expanding.Product.{Product}
use Rattle.term_sums.specs.declared.facts.Fact.{Fact}
use Rattle.term_sums.specs.declared.monomials.Factor.{Factor}
use Rattle.term_sums.specs.declared.monomials.Factor.TheVariants as factor
use Rattle.term_sums.specs.declared.monomials.Monomial.{Monomial}

-- the second number is the first with this amount, modulo 2 to the power of the width
abbrev pub AddsTo : (width old new amount : ℕ) → Type 0
AddsTo width old new amount = new % 2 ^ width ≡ (old + amount) % 2 ^ width

module _ (v : ℕ → ℕ → ℕ) (terms : List Term) (width : ℕ) where
  abbrev pub factor_value : Factor → ℕ
  factor_value (factor.Term a) = term_at v terms a
  factor_value (factor.Quotient a b) = quotient width (term_at v terms a) (term_at v terms b)
  factor_value (factor.Power a) = shifted_left width 1 (term_at v terms a)

  abbrev pub factors_value : List Factor → ℕ
  factors_value [] = 1
  factors_value (f ∷ fs) = factor_value f * factors_value fs

  abbrev pub monomial_value : Monomial → ℕ
  monomial_value m = m.coefficient * factors_value m.factors.items

  abbrev pub sum_value : List Monomial → ℕ
  sum_value [] = 0
  sum_value (m ∷ ms) = monomial_value m + sum_value ms

  -- the product of the terms at these indices
  abbrev pub pending_value : List ℕ → ℕ
  pending_value [] = 1
  pending_value (i ∷ is) = term_at v terms (record { index = i }) * pending_value is

  abbrev pub product_value : Product → ℕ
  product_value p = p.coefficient * factors_value p.factors.items * pending_value p.pending.items

  abbrev pub work_value : List Product → ℕ
  work_value [] = 0
  work_value (p ∷ ps) = product_value p + work_value ps

-- each condition is as the facts say
abbrev pub AreTrue : (ℕ → ℕ → ℕ) → List Term → List Fact → Type 0
AreTrue v terms facts = All (λ f. bit_at v terms (record { index = f.condition }) ≡ f.holds) facts

-- the number is the first term without the second, modulo 2 to the power of their width
abbrev pub IsDifferenceOf : (ℕ → ℕ → ℕ) → List Term → (a b : TermId) → ℕ → Type 0
IsDifferenceOf v terms a b n = n % 2 ^ width_of (tree_in terms a)
    ≡ (term_at v terms a + (2 ^ width_of (tree_in terms a) - term_at v terms b)) % 2 ^ width_of (tree_in terms a)

-- where the facts are true, the first is the second with this number, added at its width
pub record IsDifferenceWhere (terms : List Term) (facts : List Fact) (a b : TermId) (n : ℕ) : Type 0 where
  pub fits : n < 2 ^ width_of (tree_in terms a)
  pub says : (v : ℕ → ℕ → ℕ) → AreTrue v terms facts → term_at v terms a ≡ (term_at v terms b + n) % 2 ^ width_of (tree_in terms a)

-- the first is the second with this number, added at its width
pub record IsDifference (terms : List Term) (a b : TermId) (n : ℕ) : Type 0 where
  pub fits : n < 2 ^ width_of (tree_in terms a)
  pub says : (v : ℕ → ℕ → ℕ) → term_at v terms a ≡ (term_at v terms b + n) % 2 ^ width_of (tree_in terms a)
