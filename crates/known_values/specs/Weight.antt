-- The number of nodes of a tree.
use Rattle.std.specs.Prelude.{ℕ, ◌≡◌, ◌+◌, ◌-◌, ◌^◌, min, List, slice_index}
use Rattle.bv_terms.specs.declared.term.TermId.{TermId}
use Rattle.bv_terms.specs.declared.term.Term.{Term}
use Rattle.bv_terms.specs.declared.term.Term.TheVariants as term
use Rattle.bv_terms.specs.Tree as tree
use Rattle.bv_terms.specs.Tree.{Tree}

-- how many nodes the tree has
abbrev pub weight_of : Tree → ℕ
weight_of (tree.Constant value width) = 1
weight_of (tree.Variable number width) = 1
weight_of (tree.Not a width) = 1 + weight_of a
weight_of (tree.Binary op a b width) = 1 + weight_of a + weight_of b
weight_of (tree.Ite c a b width) = 1 + weight_of c + weight_of a + weight_of b
weight_of (tree.Extract a from width) = 1 + weight_of a
weight_of (tree.Concat high low below width) = 1 + weight_of high + weight_of low
weight_of (tree.Zext a width) = 1 + weight_of a
weight_of (tree.Sext a from width) = 1 + weight_of a

-- the number of nodes, capped at the greatest number of 64 bits
abbrev pub held : ℕ → ℕ
held n = min n (2 ^ 64 - 1)

abbrev pub IsWeight : Tree → ℕ → Type 0
IsWeight t n = n ≡ held (weight_of t)

abbrev pub weight_at : List ℕ → TermId → ℕ
weight_at done a = slice_index done a.index

-- the weight of a term over those of the earlier ones
abbrev pub weighed : List ℕ → Term → ℕ
weighed done (term.Constant value width) = 1
weighed done (term.Variable number width) = 1
weighed done (term.Not a width) = held (1 + weight_at done a)
weighed done (term.Binary op a b width) = held (1 + weight_at done a + weight_at done b)
weighed done (term.Ite c a b width) = held (1 + weight_at done c + weight_at done a + weight_at done b)
weighed done (term.Extract a from width) = held (1 + weight_at done a)
weighed done (term.Concat high low below width) = held (1 + weight_at done high + weight_at done low)
weighed done (term.Zext a width) = held (1 + weight_at done a)
weighed done (term.Sext a from width) = held (1 + weight_at done a)
