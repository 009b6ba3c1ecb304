-- What is computed from right values is right.
use Rattle.std.proofs.Common.{ℕ, ◌≡◌, ◌^◌, ◌<◌, List, get_or, length, arith, sym, subst, ◌∙◌, refl}
use Rattle.std.specs.List.{AllZip}
use Rattle.bv_terms.specs.declared.term.TermId.{TermId}
use Rattle.bv_terms.specs.declared.term.Term.{Term}
use Rattle.bv_terms.specs.declared.term.Term.TheVariants as term
use Rattle.bv_terms.specs.Tree as tree
use Rattle.bv_terms.specs.Tree.{Tree, value_of, width_of}
use Rattle.bv_terms.specs.Trees.{IsFit, IsWidth, tree_at, tree_of}
use Rattle.bv_terms.proofs.Below.{tree-below, AreBelow}
use Rattle.bv_terms.proofs.Stages.{width-tree, width-within}
use Rattle.bv_terms.proofs.Zips.{AllZip-at}
use Rattle.term_folds.specs.declared.evaluate.Assigned.{Assigned}
use Rattle.term_folds.specs.Evaluation.{AreSmall, IsValue, applied, assigned_by, number_at}
use Rattle.known_values.proofs.Cuts.{pow-le}

module _ (values : List Assigned) (trees : List Tree) (done : List ℕ) (stood : AllZip (IsValue values) trees done) where
  at : (a : TermId) → a.index < length trees → IsValue values (tree_at trees a) (number_at done a)
  at a lt = AllZip-at (IsValue values) trees done a.index (tree.Constant 0 1) 0 stood lt

  are_below : AreBelow (assigned_by values) trees
  are_below i lt =
      let x = AllZip-at (IsValue values) trees done i (tree.Constant 0 1) 0 stood lt in
      subst (λ n. n < 2 ^ width_of (get_or trees i (tree.Constant 0 1))) x.value x.fits

  -- an answer is below the power of a stated width
  small_at : (a : TermId) (width : ℕ) → a.index < length trees → width_of (tree_at trees a) ≡ width → number_at done a < 2 ^ width
  small_at a width lt e = subst (λ n. number_at done a < 2 ^ n) e (at a lt).fits

  applied-is : (t : Term) → IsFit trees t → applied (assigned_by values) done t ≡ value_of (assigned_by values) (tree_of trees t)
  applied-is (term.Constant value width) fit = refl
  applied-is (term.Variable number width) fit = refl
  applied-is (term.Not a width) fit = rw ((at a fit.within.1).value) refl
  applied-is (term.Binary op a b width) fit = rw ((at a fit.within.1).value, (at b fit.within.2).value) refl
  applied-is (term.Ite c a b width) fit = rw ((at c fit.within.3).value, (at a fit.within.1).value, (at b fit.within.2).value) refl
  applied-is (term.Extract a from width) fit = rw ((at a fit.within.1).value) refl
  applied-is (term.Concat high low below width) fit = rw ((at high fit.within.1).value, (at low fit.within.2).value) refl
  applied-is (term.Zext a width) fit = (at a fit.within.1).value
  applied-is (term.Sext a from width) fit = rw ((at a fit.within.1).value) refl

  pub value_stands : (t : Term) (out : ℕ) → IsFit trees t → out ≡ applied (assigned_by values) done t → IsValue values (tree_of trees t) out
  value_stands t out fit is =
      let value : out ≡ value_of (assigned_by values) (tree_of trees t) = is ∙ applied-is t fit in
      record {
        value = value;
        fits = subst (λ n. n < 2 ^ width_of (tree_of trees t)) (sym value) (tree-below (assigned_by values) trees t are_below fit);
        width = subst IsWidth (sym (width-tree trees t)) (width-within (length trees) t fit.within);
      }

  pub small_stands : (t : Term) → IsFit trees t → AreSmall done t
  small_stands (term.Constant value width) fit = tt
  small_stands (term.Variable number width) fit = tt
  small_stands (term.Not a width) fit = small_at a width fit.within.1 fit.matched
  small_stands (term.Binary op a b width) fit = (small_at a width fit.within.1 fit.matched.0, small_at b width fit.within.2 fit.matched.1)
  small_stands (term.Ite c a b width) fit = tt
  small_stands (term.Extract a from width) fit = omega (arith, fit.matched, (at a fit.within.1).width.1, fit.within.0.0)
  small_stands (term.Concat high low below width) fit =
      let whole = tree-below (assigned_by values) trees (term.Concat high low below width) are_below fit in
      let here = applied-is (term.Concat high low below width) fit in
      let wide = pow-le width 128 fit.within.0.1 in
      (omega (arith, fit.matched.1, (at high fit.within.1).width.0, fit.within.0.1), omega (arith, whole, here, wide))
  small_stands (term.Zext a width) fit = tt
  small_stands (term.Sext a from width) fit =
      (subst IsWidth fit.matched.0 (at a fit.within.1).width, fit.matched.1, small_at a from fit.within.1 fit.matched.0)
