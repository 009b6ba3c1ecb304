-- What a term of one bit decides.
use Rattle.std.specs.Prelude.{ℕ, ◌≡◌, ◌<◌, ◌≤◌, ◌↔◌, true, List, length}
use Rattle.bv_terms.specs.declared.term.TermId.{TermId}
use Rattle.bv_terms.specs.declared.term.Term.{Term}
use Rattle.bv_terms.specs.Tree.{width_of}
use Rattle.bv_terms.specs.Trees.{IsTerm, bit_at, tree_in}

-- a term of width 1 that is true exactly under the assignments under which this is so
abbrev pub Decides : List Term → TermId → ((ℕ → ℕ → ℕ) → Type 0) → Type 0
Decides new id fact = IsTerm new 1 id × ((v : ℕ → ℕ → ℕ) → (bit_at v new id ≡ true) ↔ fact v)

-- a term of at most 64 bits
pub record IsNarrow (terms : List Term) (a : TermId) : Type 0 where
  pub within : a.index < length terms
  pub narrow : width_of (tree_in terms a) ≤ 64
