-- What is asked of a term: which bits of its variables make it true.
use Rattle.std.specs.Prelude.{ℕ, ◌≡◌, ◌≢◌, ◌<◌, ◌+◌, ◌⊎◌, Bool, cond, Contains, List, [], ◌∷◌, map, take, drop, slice_get, slice_index_or, Some}
use Rattle.bv_terms.specs.declared.term.TermId.{TermId}
use Rattle.bv_terms.specs.declared.term.Term.{Term}
use Rattle.bv_terms.specs.declared.term.Term.TheVariants as term
use Rattle.bv_terms.specs.Tree as tree
use Rattle.bv_terms.specs.Tree.{Tree}
use Rattle.bv_terms.specs.Trees.{bit_at, tree_in}
use Rattle.gate_arith.specs.Numbers.{number_of}
use Rattle.bv_terms.specs.declared.variable.Variable.{Variable}
use Rattle.bv_terms.specs.Variables.{is_variable}

-- the variable that a term is, where it is one
abbrev pub variable_of : Term → Variable
variable_of (term.Variable number width) = record { number = number; width = width }
variable_of t = record { number = 0; width = 0 }

-- the term is a variable
abbrev pub IsVariable : List Term → TermId → Type 0
IsVariable terms a = (number : ℕ) × (width : ℕ) × (slice_get terms a.index ≡ Some (term.Variable number width))

-- terms of which no two are the same
abbrev pub AreDifferent : List TermId → Type 0
AreDifferent order = (i j : ℕ) (a b : TermId) → i < j → slice_get order i ≡ Some a → slice_get order j ≡ Some b → a ≢ b

-- the variables that are named, in order
abbrev pub variables_of : List Term → List TermId → List Variable
variables_of terms order = map (λ a. variable_of (slice_index_or terms a.index (term.Constant 0 0))) order

-- the tree has the variable
abbrev pub Mentions : Variable → Tree → Type 0
Mentions x (tree.Constant value width) = ⊥
Mentions x (tree.Variable number width) = x ≡ record { number = number; width = width }
Mentions x (tree.Not a width) = Mentions x a
Mentions x (tree.Binary op a b width) = Mentions x a ⊎ Mentions x b
Mentions x (tree.Ite c a b width) = Mentions x c ⊎ (Mentions x a ⊎ Mentions x b)
Mentions x (tree.Extract a from width) = Mentions x a
Mentions x (tree.Concat high low below width) = Mentions x high ⊎ Mentions x low
Mentions x (tree.Zext a width) = Mentions x a
Mentions x (tree.Sext a from width) = Mentions x a

-- each variable of the goal is named
abbrev pub HasAll : List Term → TermId → List TermId → Type 0
HasAll terms goal order = (x : Variable) → Mentions x (tree_in terms goal) → Contains (variables_of terms order) x

-- how many bits the variables have
abbrev pub digit_count : List Variable → ℕ
digit_count [] = 0
digit_count (x ∷ xs) = x.width + digit_count xs

-- the variables have the numbers that the bits write, one after the other, most significant bit of each first
abbrev pub assigned_by : List Variable → List Bool → ℕ → ℕ → ℕ
assigned_by [] digits number width = 0
assigned_by (x ∷ xs) digits number width =
    cond (is_variable (record { number = number; width = width }) x) (number_of (take x.width digits)) (assigned_by xs (drop x.width digits) number width)

-- whether bits make the goal true
abbrev pub goal_test : List Term → TermId → List TermId → List Bool → Bool
goal_test terms goal order digits = bit_at (assigned_by (variables_of terms order) digits) terms goal
