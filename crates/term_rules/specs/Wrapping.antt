-- What it means that an operation loses nothing where a condition is false.
use Rattle.std.specs.Prelude.{ℕ, ◌≡◌, ◌⊎◌, ◌<◌, ◌≤◌, ◌*◌, ◌^◌, false, List, length, nat_lt}
use Rattle.bv_terms.specs.declared.term.TermId.{TermId}
use Rattle.bv_terms.specs.declared.term.Term.{Term}
use Rattle.bv_terms.specs.Tree.{quotient, remainder, shifted_left, shifted_right, width_of}
use Rattle.bv_terms.specs.Trees.{bit_at, term_at, tree_in}
use Rattle.known_values.specs.Weight.{weight_of}
use Rattle.term_rules.specs.declared.comparing.Scaled.{Scaled}
use Rattle.term_rules.specs.declared.wrapping.Pair.{Pair}
use Rattle.term_rules.specs.declared.wrapping.Plain.{Plain}
use Rattle.term_rules.specs.declared.wrapping.Plain.TheVariants.{Product, Shift, Sum, Quotient}

-- the terms of the operation are there
abbrev pub IsPlain : List Term → Plain → Type 0
IsPlain terms (Product x y) = (x.index < length terms) × (y.index < length terms) × (width_of (tree_in terms x) ≡ width_of (tree_in terms y))
IsPlain terms (Shift a x amount) = (a.index < length terms) × (x.index < length terms) × (amount.index < length terms)
IsPlain terms (Sum a x y) = (a.index < length terms) × (x.index < length terms) × (y.index < length terms)
IsPlain terms (Quotient x y) = (x.index < length terms) × (y.index < length terms)

-- the operation loses nothing under the assignment: a product fits, a shift can be undone, a sum is no less than one of its parts, and a division leaves no remainder
abbrev pub Fits : List Term → (ℕ → ℕ → ℕ) → Plain → Type 0
Fits terms v (Product x y) = term_at v terms x * term_at v terms y < 2 ^ width_of (tree_in terms x)
Fits terms v (Shift a x amount) = shifted_right (width_of (tree_in terms a)) (term_at v terms a) (term_at v terms amount) ≡ term_at v terms x
Fits terms v (Sum a x y) = (term_at v terms x ≤ term_at v terms a) ⊎ (term_at v terms y ≤ term_at v terms a)
Fits terms v (Quotient x y) = remainder (term_at v terms x) (term_at v terms y) ≡ 0

-- the operation loses nothing where the condition is false
pub record IsKept (terms : List Term) (p : TermId) (plain : Plain) : Type 0 where
  pub says : (v : ℕ → ℕ → ℕ) → bit_at v terms p ≡ false → Fits terms v plain

-- the two are equal where the condition is false
pub record AreEqualWhereFalse (terms : List Term) (p : TermId) (pair : Pair) : Type 0 where
  pub first : pair.first.index < length terms
  pub second : pair.second.index < length terms
  pub says : (v : ℕ → ℕ → ℕ) → bit_at v terms p ≡ false → term_at v terms pair.first ≡ term_at v terms pair.second

-- where the condition is false, the first is the second times this, exactly
pub record IsExactFactor (terms : List Term) (p a b rest : TermId) : Type 0 where
  pub within : rest.index < length terms
  pub wide : width_of (tree_in terms rest) ≡ width_of (tree_in terms a)
  pub says : (v : ℕ → ℕ → ℕ) → bit_at v terms p ≡ false → term_at v terms a ≡ term_at v terms rest * term_at v terms b
  pub least : weight_of (tree_in terms rest) ≤ weight_of (tree_in terms a)

-- where the condition is false, the first is the second shifted left by this, and no bit is lost
pub record IsExactShift (terms : List Term) (p a b amount : TermId) : Type 0 where
  pub within : amount.index < length terms
  pub wide : width_of (tree_in terms amount) ≡ width_of (tree_in terms a)
  pub says : (v : ℕ → ℕ → ℕ) → bit_at v terms p ≡ false → term_at v terms a ≡ shifted_left (width_of (tree_in terms a)) 1 (term_at v terms amount) * term_at v terms b
  pub least : weight_of (tree_in terms amount) < weight_of (tree_in terms a)

-- where the condition is false, the first and this leave the same when they are divided by the second
pub record IsRestWhere (terms : List Term) (p a b rest : TermId) : Type 0 where
  pub within : rest.index < length terms
  pub wide : width_of (tree_in terms rest) ≡ width_of (tree_in terms a)
  pub says : (v : ℕ → ℕ → ℕ) → bit_at v terms p ≡ false → remainder (term_at v terms rest) (term_at v terms b) ≡ remainder (term_at v terms a) (term_at v terms b)
  pub least : weight_of (tree_in terms rest) ≤ weight_of (tree_in terms a)

-- where the condition is false, the term is the number's quotient by the other, without a remainder
pub record IsExactQuotient (terms : List Term) (p a : TermId) (s : Scaled) : Type 0 where
  pub within : s.number.index < length terms
  pub wide : width_of (tree_in terms s.number) ≡ width_of (tree_in terms a)
  pub says : (v : ℕ → ℕ → ℕ) → bit_at v terms p ≡ false
      → (term_at v terms a ≡ quotient (width_of (tree_in terms a)) (term_at v terms s.number) (term_at v terms s.by)) × (remainder (term_at v terms s.number) (term_at v terms s.by) ≡ 0)

-- where the condition is false, the term is the number times the other, which is not 0, exactly
pub record IsExactProduct (terms : List Term) (p a : TermId) (s : Scaled) : Type 0 where
  pub within : s.number.index < length terms
  pub wide : width_of (tree_in terms s.number) ≡ width_of (tree_in terms a)
  pub says : (v : ℕ → ℕ → ℕ) → bit_at v terms p ≡ false
      → (term_at v terms a ≡ term_at v terms s.number * term_at v terms s.by) × (1 ≤ term_at v terms s.by)

-- where the condition is false, the pair is in the order of the two
pub record HaveOneOrder (terms : List Term) (p a b : TermId) (pair : Pair) : Type 0 where
  pub first : pair.first.index < length terms
  pub second : pair.second.index < length terms
  pub wide_first : width_of (tree_in terms pair.first) ≡ width_of (tree_in terms a)
  pub wide_second : width_of (tree_in terms pair.second) ≡ width_of (tree_in terms b)
  pub below : (v : ℕ → ℕ → ℕ) → bit_at v terms p ≡ false → nat_lt (term_at v terms pair.first) (term_at v terms pair.second) ≡ nat_lt (term_at v terms a) (term_at v terms b)
  pub above : (v : ℕ → ℕ → ℕ) → bit_at v terms p ≡ false → nat_lt (term_at v terms pair.second) (term_at v terms pair.first) ≡ nat_lt (term_at v terms b) (term_at v terms a)
