-- What is made of right weights is right.
use Rattle.std.proofs.Common.{ℕ, ◌≡◌, ◌+◌, ◌-◌, ◌^◌, ◌<◌, List, length, arith, ap, ◌∙◌}
use Rattle.std.specs.Prelude.{min}
use Rattle.std.specs.List.{AllZip}
use Rattle.bv_terms.specs.declared.term.TermId.{TermId}
use Rattle.bv_terms.specs.declared.term.Term.{Term}
use Rattle.bv_terms.specs.declared.term.Term.TheVariants as term
use Rattle.bv_terms.specs.Tree as tree
use Rattle.bv_terms.specs.Tree.{Tree}
use Rattle.bv_terms.specs.Trees.{IsFit, tree_at, tree_of}
use Rattle.bv_terms.proofs.Zips.{AllZip-at}
use Rattle.known_values.specs.Weight.{IsWeight, held, weighed, weight_at, weight_of}

min_one : (m x : ℕ) → min (1 + min x m) m ≡ min (1 + x) m
min_one m x = omega arith

min_two : (m x y : ℕ) → min (1 + min x m + min y m) m ≡ min (1 + x + y) m
min_two m x y = omega arith

min_three : (m x y z : ℕ) → min (1 + min x m + min y m + min z m) m ≡ min (1 + x + y + z) m
min_three m x y z = omega arith

module _ (trees : List Tree) (done : List ℕ) (stood : AllZip IsWeight trees done) where
  at : (a : TermId) → a.index < length trees → weight_at done a ≡ held (weight_of (tree_at trees a))
  at a lt = AllZip-at IsWeight trees done a.index (tree.Constant 0 1) 0 stood lt

  one : (a : TermId) → a.index < length trees → held (1 + weight_at done a) ≡ held (1 + weight_of (tree_at trees a))
  one a lt = ap (λ x. held (1 + x)) (at a lt) ∙ min_one (2 ^ 64 - 1) (weight_of (tree_at trees a))

  two : (a b : TermId) → a.index < length trees → b.index < length trees
      → held (1 + weight_at done a + weight_at done b) ≡ held (1 + weight_of (tree_at trees a) + weight_of (tree_at trees b))
  two a b la lb =
      ap (λ x. held (1 + x + weight_at done b)) (at a la)
      ∙ (ap (λ y. held (1 + held (weight_of (tree_at trees a)) + y)) (at b lb) ∙ min_two (2 ^ 64 - 1) (weight_of (tree_at trees a)) (weight_of (tree_at trees b)))

  three : (a b c : TermId) → a.index < length trees → b.index < length trees → c.index < length trees
      → held (1 + weight_at done a + weight_at done b + weight_at done c) ≡ held (1 + weight_of (tree_at trees a) + weight_of (tree_at trees b) + weight_of (tree_at trees c))
  three a b c la lb lc =
      ap (λ x. held (1 + x + weight_at done b + weight_at done c)) (at a la)
      ∙ (ap (λ y. held (1 + held (weight_of (tree_at trees a)) + y + weight_at done c)) (at b lb)
      ∙ (ap (λ z. held (1 + held (weight_of (tree_at trees a)) + held (weight_of (tree_at trees b)) + z)) (at c lc)
      ∙ min_three (2 ^ 64 - 1) (weight_of (tree_at trees a)) (weight_of (tree_at trees b)) (weight_of (tree_at trees c))))

  leaf : 1 ≡ held 1
  leaf = omega arith

  pub weight_stands : (t : Term) → IsFit trees t → IsWeight (tree_of trees t) (weighed done t)
  weight_stands (term.Constant value width) fit = leaf
  weight_stands (term.Variable number width) fit = leaf
  weight_stands (term.Not a width) fit = one a fit.within.1
  weight_stands (term.Binary op a b width) fit = two a b fit.within.1 fit.within.2
  weight_stands (term.Ite c a b width) fit = three c a b fit.within.3 fit.within.1 fit.within.2
  weight_stands (term.Extract a from width) fit = one a fit.within.1
  weight_stands (term.Concat high low below width) fit = two high low fit.within.1 fit.within.2
  weight_stands (term.Zext a width) fit = one a fit.within.1
  weight_stands (term.Sext a from width) fit = one a fit.within.1
