-- Terms over one variable mention no other.
use Rattle.std.proofs.Common.{ℕ, zero, suc, refl, ◌≡◌, ◌<◌, ◌⊎◌, inl, inr, All, List, [], ◌∷◌, ◌++◌, Some, length, get_or, slice_get, ap, sym, subst, arith, ◌∙◌, length-append}
use Rattle.std.proofs.lemmas.Bool.{cases_eq}
use Rattle.std.proofs.lemmas.List.{get_or_push, get_or_append_left}
use Rattle.std.proofs.lemmas.Option.{get_or_from_slice_get}
use Rattle.bv_terms.specs.declared.term.TermId.{TermId}
use Rattle.bv_terms.specs.declared.term.Term.{Term}
use Rattle.bv_terms.specs.declared.term.Term.TheVariants as term
use Rattle.bv_terms.specs.declared.variable.Variable.{Variable}
use Rattle.bv_terms.specs.Tree as tree
use Rattle.bv_terms.specs.Tree.{Tree}
use Rattle.bv_terms.specs.Trees.{AreFit, Gains, IsFit, tree_at, tree_of, trees_from, trees_of, tree_in, variable_in, variables_among}
use Rattle.bv_terms.proofs.Stages.{length-trees}
use Rattle.mem_terms.specs.Values.{Each}
use Rattle.mem_terms.proofs.Eaches.{each-push}
use Rattle.sat_ask.specs.Questions.{HasAll, IsVariable, Mentions, variable_of}
use Rattle.test_solving.specs.Over.{AreOver}

module _ (x : Variable) where
  abbrev Only : Tree → Type 0
  Only t = (v : Variable) → Mentions v t → v ≡ x

  abbrev AreOnly : List Tree → Type 0
  AreOnly trees = (i : ℕ) → i < length trees → Only (get_or trees i (tree.Constant 0 1))

  abbrev IsEach : List Variable → Type 0
  IsEach vs = Each (λ v. v ≡ x) vs

  front : (vs ws : List Variable) → IsEach (vs ++ ws) → IsEach vs
  front [] ws h = tt
  front (v ∷ vs) ws h = (h.0, front vs ws h.1)

  back : (vs ws : List Variable) → IsEach (vs ++ ws) → IsEach ws
  back [] ws h = h
  back (v ∷ vs) ws h = back vs ws h.1

  two : (a b : Tree) (v : Variable) → Only a → Only b → Mentions v a ⊎ Mentions v b → v ≡ x
  two a b v p q (inl h) = p v h
  two a b v p q (inr h) = q v h

  tree-only : (earlier : List Tree) (t : Term) → AreOnly earlier → IsFit earlier t → IsEach (variable_in t) → Only (tree_of earlier t)
  tree-only earlier (term.Constant value width) h fit own v m = absurd m
  tree-only earlier (term.Variable number width) h fit own v m = m ∙ own.0
  tree-only earlier (term.Not a width) h fit own v m = h a.index fit.within.1 v m
  tree-only earlier (term.Binary op a b width) h fit own v m = two (tree_at earlier a) (tree_at earlier b) v (h a.index fit.within.1) (h b.index fit.within.2) m
  tree-only earlier (term.Ite c a b width) h fit own v (inl m) = h c.index fit.within.3 v m
  tree-only earlier (term.Ite c a b width) h fit own v (inr m) = two (tree_at earlier a) (tree_at earlier b) v (h a.index fit.within.1) (h b.index fit.within.2) m
  tree-only earlier (term.Extract a from width) h fit own v m = h a.index fit.within.1 v m
  tree-only earlier (term.Concat high low below width) h fit own v m = two (tree_at earlier high) (tree_at earlier low) v (h high.index fit.within.1) (h low.index fit.within.2) m
  tree-only earlier (term.Zext a width) h fit own v m = h a.index fit.within.1 v m
  tree-only earlier (term.Sext a from width) h fit own v m = h a.index fit.within.1 v m

  only-push : (earlier : List Tree) (t : Tree) → AreOnly earlier → Only t → AreOnly (earlier ++ t ∷ [])
  only-push earlier t h new i lt = elim (cases_eq i (length earlier)) [
    | inl is ↦ subst Only (sym (get_or_push earlier t (tree.Constant 0 1) i (sym is))) new
    | inr other ↦
        let early : i < length earlier = omega (arith, other, length-append earlier (t ∷ [])) in
        subst Only (sym (get_or_append_left earlier (t ∷ []) (tree.Constant 0 1) i early)) (h i early)
  ]

  trees-only : (earlier : List Tree) (ts : List Term) → AreOnly earlier → AreFit earlier ts → IsEach (variables_among ts) → AreOnly (trees_from earlier ts)
  unfolding variables_among
  trees-only earlier [] h fit own = h
  trees-only earlier (t ∷ ts) h fit own =
      trees-only (earlier ++ tree_of earlier t ∷ []) ts
      (only-push earlier (tree_of earlier t) h (tree-only earlier t h fit.0 (front (variable_in t) (variables_among ts) own))) fit.1
      (back (variable_in t) (variables_among ts) own)

  terms-only : (ts : List Term) (a : TermId) → AreFit [] ts → AreOver x ts → a.index < length ts → Only (tree_in ts a)
  unfolding trees_of
  terms-only ts a fit own lt = trees-only [] ts (λ i none. absurd (omega arith)) fit own a.index (omega (arith, lt, length-trees [] ts))

  -- a variable that is added again, or for the first time
  pub over-gains : (old new : List Term) → AreOver x old → Gains old new (x ∷ []) → AreOver x new
  over-gains old new h (inl same) = subst IsEach (sym same) h
  over-gains old new h (inr more) = subst IsEach (sym more) (each-push (λ v. v ≡ x) (variables_among old) x h refl)

  pub over-same : (old new : List Term) → variables_among new ≡ variables_among old → AreOver x old → AreOver x new
  over-same old new same h = subst IsEach (sym same) h

  pub all-one : (terms : List Term) (goal a : TermId) → AreFit [] terms → AreOver x terms → goal.index < length terms → slice_get terms a.index ≡ Some (term.Variable x.number x.width) → HasAll terms goal (a ∷ [])
  all-one terms goal a fit own lt at v m =
      (0, omega arith, ap variable_of (get_or_from_slice_get terms a.index (term.Variable x.number x.width) (term.Constant 0 0) at) ∙ sym (terms-only terms goal fit own lt v m))

pub order-one : (terms : List Term) (a : TermId) (number width : ℕ) → slice_get terms a.index ≡ Some (term.Variable number width) → All (IsVariable terms) (a ∷ [])
order-one terms a number width at zero d lt = (number, width, at)
order-one terms a number width at (suc i) d lt = absurd (omega arith)
