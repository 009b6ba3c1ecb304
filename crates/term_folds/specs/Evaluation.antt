-- The value of a term over the values of earlier ones.
use Rattle.std.specs.Prelude.{ℕ, ◌≡◌, ◌+◌, ◌-◌, ◌*◌, ◌/◌, ◌%◌, ◌^◌, ◌<◌, ◌≤◌, ◌&&◌, cond, nat_eq, List, [], ◌∷◌, slice_index}
use Rattle.bv_terms.specs.declared.term.TermId.{TermId}
use Rattle.bv_terms.specs.declared.term.Term.{Term}
use Rattle.bv_terms.specs.declared.term.Term.TheVariants as term
use Rattle.bv_terms.specs.Tree.{Tree, binary_value, width_of, value_of, truth, extended_signed}
use Rattle.bv_terms.specs.Trees.{IsWidth}
use Rattle.term_folds.specs.declared.evaluate.Assigned.{Assigned}

-- what is assigned first to the variable of that number and width, or 0
abbrev pub assigned_by : List Assigned → ℕ → ℕ → ℕ
assigned_by [] number width = 0
assigned_by (a ∷ rest) number width = cond (nat_eq a.number number && nat_eq a.width width) a.value (assigned_by rest number width)

-- the number is the tree's value, and fits its width
pub record IsValue (values : List Assigned) (tree : Tree) (n : ℕ) : Type 0 where
  pub value : n ≡ value_of (assigned_by values) tree
  pub fits : n < 2 ^ width_of tree
  pub width : IsWidth (width_of tree)

-- the answer for an earlier term
abbrev pub number_at : List ℕ → TermId → ℕ
number_at done a = slice_index done a.index

-- the value of a term over the answers for the earlier ones
abbrev pub applied : (ℕ → ℕ → ℕ) → List ℕ → Term → ℕ
applied v done (term.Constant value width) = value
applied v done (term.Variable number width) = v number width % 2 ^ width
applied v done (term.Not a width) = 2 ^ width - 1 - number_at done a
applied v done (term.Binary op a b width) = binary_value op width (number_at done a) (number_at done b)
applied v done (term.Ite c a b width) = cond (truth (number_at done c)) (number_at done a) (number_at done b)
applied v done (term.Extract a from width) = number_at done a / 2 ^ from % 2 ^ width
applied v done (term.Concat high low below width) = number_at done high * 2 ^ below + number_at done low
applied v done (term.Zext a width) = number_at done a
applied v done (term.Sext a from width) = extended_signed from width (number_at done a)

-- the answers fit where the operation needs it
abbrev pub AreSmall : List ℕ → Term → Type 0
AreSmall done (term.Constant value width) = Unit {0}
AreSmall done (term.Variable number width) = Unit {0}
AreSmall done (term.Not a width) = number_at done a < 2 ^ width
AreSmall done (term.Binary op a b width) = (number_at done a < 2 ^ width) × (number_at done b < 2 ^ width)
AreSmall done (term.Ite c a b width) = Unit {0}
AreSmall done (term.Extract a from width) = from < 128
AreSmall done (term.Concat high low below width) = (below < 128) × (number_at done high * 2 ^ below + number_at done low < 2 ^ 128)
AreSmall done (term.Zext a width) = Unit {0}
AreSmall done (term.Sext a from width) = IsWidth from × (from ≤ width) × (number_at done a < 2 ^ from)
