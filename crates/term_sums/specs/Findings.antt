-- What is found of terms: the number that one is, what is left of an operand, and what a condition says of another.
use Rattle.std.specs.Prelude.{ℕ, ◌≡◌, ◌<◌, ◌^◌, Bool, true, List, nat_eq, bit_and, bit_or, length}
use Rattle.bv_terms.specs.declared.term.TermId.{TermId}
use Rattle.bv_terms.specs.declared.term.Term.{Term}
use Rattle.bv_terms.specs.Tree.{width_of}
use Rattle.bv_terms.specs.Trees.{bit_at, term_at, tree_in}
use Rattle.known_values.specs.Weight.{weight_of}
use Rattle.term_sums.specs.declared.conditions.Equation.{Equation}

-- the term is this number under each assignment
pub record IsNumber (terms : List Term) (a : TermId) (n : ℕ) : Type 0 where
  pub says : (v : ℕ → ℕ → ℕ) → term_at v terms a ≡ n
  pub fits : n < 2 ^ width_of (tree_in terms a)

-- a term of the width of the second, with fewer nodes, whose conjunction with the first is that of the second
pub record IsAndPart (terms : List Term) (a b part : TermId) : Type 0 where
  pub within : part.index < length terms
  pub wide : width_of (tree_in terms part) ≡ width_of (tree_in terms b)
  pub says : (v : ℕ → ℕ → ℕ) → bit_and (term_at v terms a) (term_at v terms part) ≡ bit_and (term_at v terms a) (term_at v terms b)
  pub least : weight_of (tree_in terms part) < weight_of (tree_in terms b)

-- a term of the width of the second, with fewer nodes, whose disjunction with the first is that of the second
pub record IsOrPart (terms : List Term) (a b part : TermId) : Type 0 where
  pub within : part.index < length terms
  pub wide : width_of (tree_in terms part) ≡ width_of (tree_in terms b)
  pub says : (v : ℕ → ℕ → ℕ) → bit_or (term_at v terms a) (term_at v terms part) ≡ bit_or (term_at v terms a) (term_at v terms b)
  pub least : weight_of (tree_in terms part) < weight_of (tree_in terms b)

-- where the first is true, the second is this
pub record Entails (terms : List Term) (c d : TermId) (known : Bool) : Type 0 where
  pub says : (v : ℕ → ℕ → ℕ) → bit_at v terms c ≡ true → bit_at v terms d ≡ known

-- the term is true exactly where the other is this number
pub record IsEquation (terms : List Term) (a : TermId) (e : Equation) : Type 0 where
  pub says : (v : ℕ → ℕ → ℕ) → bit_at v terms a ≡ nat_eq e.number (term_at v terms e.term)
