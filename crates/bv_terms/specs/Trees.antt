-- The trees that a list of terms denotes, each term naming earlier ones, and the value of a term under an assignment.
use Rattle.std.specs.Prelude.{ℕ, ◌≡◌, ◌⊎◌, ◌<◌, ◌≤◌, ◌+◌, ◌^◌, Bool, List, [], ◌∷◌, ◌++◌, length, slice_index_or, slice_get, Some}
use Rattle.bv_terms.specs.declared.term.TermId.{TermId}
use Rattle.bv_terms.specs.declared.term.Term.{Term}
use Rattle.bv_terms.specs.declared.term.Term.TheVariants as term
use Rattle.bv_terms.specs.declared.variable.Variable.{Variable}
use Rattle.bv_terms.specs.Tree as tree
use Rattle.bv_terms.specs.Tree.{Tree, binary_width, width_of, value_of, truth}

-- the tree of an earlier term
abbrev pub tree_at : List Tree → TermId → Tree
tree_at earlier a = slice_index_or earlier a.index (tree.Constant 0 1)

-- the tree of a term over those of the earlier ones
abbrev pub tree_of : List Tree → Term → Tree
tree_of earlier (term.Constant value width) = tree.Constant value width
tree_of earlier (term.Variable number width) = tree.Variable number width
tree_of earlier (term.Not a width) = tree.Not (tree_at earlier a) width
tree_of earlier (term.Binary op a b width) = tree.Binary op (tree_at earlier a) (tree_at earlier b) width
tree_of earlier (term.Ite c a b width) = tree.Ite (tree_at earlier c) (tree_at earlier a) (tree_at earlier b) width
tree_of earlier (term.Extract a from width) = tree.Extract (tree_at earlier a) from width
tree_of earlier (term.Concat high low below width) = tree.Concat (tree_at earlier high) (tree_at earlier low) below width
tree_of earlier (term.Zext a width) = tree.Zext (tree_at earlier a) width
tree_of earlier (term.Sext a from width) = tree.Sext (tree_at earlier a) from width

-- how many bits a term has
abbrev pub term_width : Term → ℕ
term_width (term.Constant value width) = width
term_width (term.Variable number width) = width
term_width (term.Not a width) = width
term_width (term.Binary op a b width) = binary_width op width
term_width (term.Ite c a b width) = width
term_width (term.Extract a from width) = width
term_width (term.Concat high low below width) = width
term_width (term.Zext a width) = width
term_width (term.Sext a from width) = width

abbrev pub IsWidth : ℕ → Type 0
IsWidth width = (1 ≤ width) × (width ≤ 128)

-- what a term names is among the first n, and the width that it gives is valid
abbrev pub IsWithin : ℕ → Term → Type 0
IsWithin n (term.Constant value width) = IsWidth width × (value < 2 ^ width)
IsWithin n (term.Variable number width) = IsWidth width
IsWithin n (term.Not a width) = IsWidth width × (a.index < n)
IsWithin n (term.Binary op a b width) = IsWidth width × (a.index < n) × (b.index < n)
IsWithin n (term.Ite c a b width) = IsWidth width × (a.index < n) × (b.index < n) × (c.index < n)
IsWithin n (term.Extract a from width) = IsWidth width × (a.index < n)
IsWithin n (term.Concat high low below width) = IsWidth width × (high.index < n) × (low.index < n)
IsWithin n (term.Zext a width) = IsWidth width × (a.index < n)
IsWithin n (term.Sext a from width) = IsWidth width × (a.index < n)

-- an earlier term has this width
abbrev pub HasWidth : List Tree → TermId → ℕ → Type 0
HasWidth earlier a width = width_of (tree_at earlier a) ≡ width

-- the widths of what a term names match
abbrev pub AreMatched : List Tree → Term → Type 0
AreMatched earlier (term.Constant value width) = Unit {0}
AreMatched earlier (term.Variable number width) = Unit {0}
AreMatched earlier (term.Not a width) = HasWidth earlier a width
AreMatched earlier (term.Binary op a b width) = HasWidth earlier a width × HasWidth earlier b width
AreMatched earlier (term.Ite c a b width) = HasWidth earlier a width × HasWidth earlier b width × HasWidth earlier c 1
AreMatched earlier (term.Extract a from width) = from + width ≤ width_of (tree_at earlier a)
AreMatched earlier (term.Concat high low below width) = HasWidth earlier low below × (width_of (tree_at earlier high) + below ≡ width)
AreMatched earlier (term.Zext a width) = width_of (tree_at earlier a) ≤ width
AreMatched earlier (term.Sext a from width) = HasWidth earlier a from × (from ≤ width) × (1 ≤ from)

-- a term is valid after the earlier ones
pub record IsFit (earlier : List Tree) (term : Term) : Type 0 where
  pub within : IsWithin (length earlier) term
  pub matched : AreMatched earlier term

-- the trees after those of further terms
abbrev pub trees_from : List Tree → List Term → List Tree
trees_from earlier [] = earlier
trees_from earlier (t ∷ ts) = trees_from (earlier ++ tree_of earlier t ∷ []) ts

unfoldable pub trees_of : List Term → List Tree
trees_of terms = trees_from [] terms

abbrev pub AreFit : List Tree → List Term → Type 0
AreFit earlier [] = Unit {0}
AreFit earlier (t ∷ ts) = IsFit earlier t × AreFit (earlier ++ tree_of earlier t ∷ []) ts

-- no term occurs twice
abbrev pub AreDistinct : List Term → Type 0
AreDistinct terms = (i j : ℕ) (t : Term) → slice_get terms i ≡ Some t → slice_get terms j ≡ Some t → i ≡ j

-- ---- the values of terms

abbrev pub tree_in : List Term → TermId → Tree
tree_in terms a = tree_at (trees_of terms) a

-- the value of a term under an assignment
abbrev pub term_at : (ℕ → ℕ → ℕ) → List Term → TermId → ℕ
term_at v terms a = value_of v (tree_in terms a)

-- whether the term is true under an assignment
abbrev pub bit_at : (ℕ → ℕ → ℕ) → List Term → TermId → Bool
bit_at v terms a = truth (term_at v terms a)

-- the term is an operation or a constant
abbrev pub IsNoVariable : Term → Type 0
IsNoVariable (term.Variable number width) = ⊥
IsNoVariable t = Unit {0}

-- the terms stay, with their trees, and others may come after them
pub record Extends (old new : List Term) : Type 0 where
  pub longer : length old ≤ length new
  pub terms : (i : ℕ) → i < length old → slice_get new i ≡ slice_get old i
  pub kept : (a : TermId) → a.index < length old → tree_in new a ≡ tree_in old a

-- the variable that a term is, if it is one
abbrev pub variable_in : Term → List Variable
variable_in (term.Variable number width) = record { number = number; width = width } ∷ []
variable_in t = []

-- the variables among terms, in order
unfoldable pub variables_among : List Term → List Variable
variables_among [] = []
variables_among (t ∷ ts) = variable_in t ++ variables_among ts

-- the terms stay, as above, and no variable is added
pub record Keeps (old new : List Term) : Type 0 where
  pub longer : length old ≤ length new
  pub terms : (i : ℕ) → i < length old → slice_get new i ≡ slice_get old i
  pub kept : (a : TermId) → a.index < length old → tree_in new a ≡ tree_in old a
  pub calm : variables_among new ≡ variables_among old

-- these variables are added, or none are
abbrev pub Gains : (old new : List Term) → List Variable → Type 0
Gains old new xs = (variables_among new ≡ variables_among old) ⊎ (variables_among new ≡ variables_among old ++ xs)

-- a term of this width, with this value under each assignment
pub record Makes (new : List Term) (id : TermId) (width : ℕ) (value : (ℕ → ℕ → ℕ) → ℕ) : Type 0 where
  pub within : id.index < length new
  pub wide : width_of (tree_in new id) ≡ width
  pub says : (v : ℕ → ℕ → ℕ) → term_at v new id ≡ value v

-- a term of width 1 that is true exactly where this holds
pub record Tests (new : List Term) (id : TermId) (test : (ℕ → ℕ → ℕ) → Bool) : Type 0 where
  pub within : id.index < length new
  pub wide : width_of (tree_in new id) ≡ 1
  pub says : (v : ℕ → ℕ → ℕ) → bit_at v new id ≡ test v

-- a term of this width
pub record IsTerm (terms : List Term) (width : ℕ) (id : TermId) : Type 0 where
  pub within : id.index < length terms
  pub wide : width_of (tree_in terms id) ≡ width

-- each value fits its width
abbrev pub AreInRange : List Term → Type 0
AreInRange terms = (v : ℕ → ℕ → ℕ) (a : TermId) → a.index < length terms → term_at v terms a < 2 ^ width_of (tree_in terms a)
