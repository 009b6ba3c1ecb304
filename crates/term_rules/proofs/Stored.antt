-- What is stored in a list of terms.
use Rattle.term_rules.proofs.Common.{ℕ, ◌≡◌, ◌<◌, ◌^◌, List, length, arith, ◌∙◌, sym, subst, ◌≤◌, [], slice_get, Some, length-trees, tree-same, width-tree, Tree, value_of, AreInRange, tree_in, AreFit, AreMatched, Extends, IsWithin, tree_of, term_width, trees_from, trees_of, Term, TermId, weight_of}
use Rattle.bv_terms.specs.Tree as tree
use Rattle.bv_terms.proofs.Below.{AreBelow, tree-below}
use Rattle.term_sums.proofs.Stored.{tree_stored}

-- a term that was stored has the tree that it had before
pub tree_made : (old new : List Term) (id : TermId) (t : Term) → Extends old new → AreFit [] new → IsWithin (length old) t → slice_get new id.index ≡ Some t → tree_in new id ≡ tree_of (trees_of old) t
unfolding trees_of
tree_made old new id t kept fit within at =
    let whole : length (trees_from [] old) ≡ length old = omega (arith, length-trees [] old) in
    tree_stored new id t fit at
    ∙ tree-same (trees_from [] old) (trees_from [] new) t (subst (λ n. IsWithin n t) (sym whole) within) (λ a below. kept.kept a (omega (arith, below, length-trees [] old)))

-- a tree has a node
pub weight_positive : (t : Tree) → 1 ≤ weight_of t
weight_positive (tree.Constant value width) = omega arith
weight_positive (tree.Variable number width) = omega arith
weight_positive (tree.Not a width) = omega arith
weight_positive (tree.Binary op a b width) = omega arith
weight_positive (tree.Ite c a b width) = omega arith
weight_positive (tree.Extract a from width) = omega arith
weight_positive (tree.Concat high low below width) = omega arith
weight_positive (tree.Zext a width) = omega arith
weight_positive (tree.Sext a from width) = omega arith

-- the value of an operation over these terms fits its width
pub value_fits : (terms : List Term) (t : Term) (v : ℕ → ℕ → ℕ) → AreInRange terms → IsWithin (length terms) t → AreMatched (trees_of terms) t → value_of v (tree_of (trees_of terms) t) < 2 ^ term_width t
unfolding trees_of
value_fits terms t v range within matched =
    let whole : length (trees_from [] terms) ≡ length terms = omega (arith, length-trees [] terms) in
    let id : ℕ → TermId = λ i. record { index = i } in
    let below : AreBelow v (trees_from [] terms) = λ i lt. range v (id i) (omega (arith, lt, length-trees [] terms)) in
    subst (λ n. value_of v (tree_of (trees_from [] terms) t) < 2 ^ n) (width-tree (trees_from [] terms) t)
    (tree-below v (trees_from [] terms) t below (record { within = subst (λ n. IsWithin n t) (sym whole) within; matched = matched }))
