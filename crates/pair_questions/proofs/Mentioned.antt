-- Terms whose variables are all named mention no other variable.
use Rattle.pair_questions.proofs.Common.{ℕ, zero, suc, ◌≡◌, ◌<◌, ◌+◌, ◌⊎◌, inl, inr, List, [], ◌∷◌, ◌++◌, Some, length, get_or, slice_get, ap, sym, subst, arith, ◌∙◌, length-append, cases_eq, get_or-map, get_or_push, get_or_append_left, get_or_from_slice_get, TermId, Term, Variable, Tree, AreFit, IsFit, tree_at, tree_of, trees_from, trees_of, tree_in, variable_in, variables_among, HasAll, Mentions, variable_of, Each, map-length, AreNumbered, IsNumbered, IsOrder}
use Rattle.bv_terms.specs.declared.term.Term.TheVariants as term
use Rattle.bv_terms.specs.Tree as tree
use Rattle.bv_terms.proofs.Stages.{length-trees}

module _ (P : Variable → Type 0) where
  abbrev Only : Tree → Type 0
  Only t = (x : Variable) → Mentions x t → P x

  abbrev AreOnly : List Tree → Type 0
  AreOnly trees = (i : ℕ) → i < length trees → Only (get_or trees i (tree.Constant 0 1))

  -- each variable of these has the property
  abbrev pub AreVariables : List Variable → Type 0
  AreVariables xs = Each P xs

  front : (xs ys : List Variable) → AreVariables (xs ++ ys) → AreVariables xs
  front [] ys h = tt
  front (x ∷ xs) ys h = (h.0, front xs ys h.1)

  back : (xs ys : List Variable) → AreVariables (xs ++ ys) → AreVariables ys
  back [] ys h = h
  back (x ∷ xs) ys h = back xs ys h.1

  two : (a b : Tree) (x : Variable) → Only a → Only b → Mentions x a ⊎ Mentions x b → P x
  two a b x p q (inl h) = p x h
  two a b x p q (inr h) = q x h

  tree-only : (earlier : List Tree) (t : Term) → AreOnly earlier → IsFit earlier t → AreVariables (variable_in t) → Only (tree_of earlier t)
  tree-only earlier (term.Constant value width) h fit own x m = absurd m
  tree-only earlier (term.Variable number width) h fit own x m = subst P (sym m) own.0
  tree-only earlier (term.Not a width) h fit own x m = h a.index fit.within.1 x m
  tree-only earlier (term.Binary op a b width) h fit own x m = two (tree_at earlier a) (tree_at earlier b) x (h a.index fit.within.1) (h b.index fit.within.2) m
  tree-only earlier (term.Ite c a b width) h fit own x (inl m) = h c.index fit.within.3 x m
  tree-only earlier (term.Ite c a b width) h fit own x (inr m) = two (tree_at earlier a) (tree_at earlier b) x (h a.index fit.within.1) (h b.index fit.within.2) m
  tree-only earlier (term.Extract a from width) h fit own x m = h a.index fit.within.1 x m
  tree-only earlier (term.Concat high low below width) h fit own x m = two (tree_at earlier high) (tree_at earlier low) x (h high.index fit.within.1) (h low.index fit.within.2) m
  tree-only earlier (term.Zext a width) h fit own x m = h a.index fit.within.1 x m
  tree-only earlier (term.Sext a from width) h fit own x m = h a.index fit.within.1 x m

  only-push : (earlier : List Tree) (t : Tree) → AreOnly earlier → Only t → AreOnly (earlier ++ t ∷ [])
  only-push earlier t h new i lt = elim (cases_eq i (length earlier)) [
    | inl is ↦ subst Only (sym (get_or_push earlier t (tree.Constant 0 1) i (sym is))) new
    | inr other ↦
        let early : i < length earlier = omega (arith, other, length-append earlier (t ∷ [])) in
        subst Only (sym (get_or_append_left earlier (t ∷ []) (tree.Constant 0 1) i early)) (h i early)
  ]

  trees-only : (earlier : List Tree) (ts : List Term) → AreOnly earlier → AreFit earlier ts → AreVariables (variables_among ts) → AreOnly (trees_from earlier ts)
  unfolding variables_among
  trees-only earlier [] h fit own = h
  trees-only earlier (t ∷ ts) h fit own =
      trees-only (earlier ++ tree_of earlier t ∷ []) ts
      (only-push earlier (tree_of earlier t) h (tree-only earlier t h fit.0 (front (variable_in t) (variables_among ts) own))) fit.1
      (back (variable_in t) (variables_among ts) own)

  pub terms_only : (ts : List Term) (a : TermId) → AreFit [] ts → AreVariables (variables_among ts) → a.index < length ts → Only (tree_in ts a)
  unfolding trees_of
  terms_only ts a fit own lt = trees-only [] ts (λ i none. absurd (omega arith)) fit own a.index (omega (arith, lt, length-trees [] ts))

-- a variable with a number is one of the order's
contains : (terms : List Term) (from : ℕ) (order : List TermId) (widths : List ℕ) (k width : ℕ) → AreNumbered terms from order widths → slice_get widths k ≡ Some width
    → (k < length order) × (variable_of (get_or terms (get_or order k (record { index = 0 })).index (term.Constant 0 0)) ≡ record { number = from + k; width = width })
contains terms from [] [] k width h at = absurd (let z : ⊥ = cc in z)
contains terms from (a ∷ rest) (w ∷ ws) zero width h at =
    let same : w ≡ width = cc in
    let number : from ≡ from + 0 = omega arith in
    let make : ℕ → ℕ → Variable = λ n k. record { number = n; width = k } in
    (omega arith, ap variable_of (get_or_from_slice_get terms a.index (term.Variable from w) (term.Constant 0 0) h.0) ∙ (ap (λ n. make n w) number ∙ ap (λ k. make (from + 0) k) same))
contains terms from (a ∷ rest) (w ∷ ws) (suc k) width h at =
    let r = contains terms (from + 1) rest ws k width h.1 at in
    let number : from + 1 + k ≡ from + suc k = omega arith in
    let make : ℕ → Variable = λ n. record { number = n; width = width } in
    (omega (arith, r.0), r.1 ∙ ap make number)
contains terms from [] (w ∷ ws) k width h at = absurd h
contains terms from (a ∷ rest) [] k width h at = absurd h

abbrev variable_at : List Term → TermId → Variable
variable_at terms a = variable_of (get_or terms a.index (term.Constant 0 0))

-- each term mentions only the variables of the order
pub has_all : (terms : List Term) (order : List TermId) (widths : List ℕ) (goal : TermId) → AreFit [] terms → IsOrder terms order widths → goal.index < length terms → HasAll terms goal order
has_all terms order widths goal fit all lt x m =
    let at = terms_only (IsNumbered widths) terms goal fit all.named lt x m in
    let c = contains terms 0 order widths x.number x.width all.numbered at in
    let number : 0 + x.number ≡ x.number = omega arith in
    let make : ℕ → Variable = λ n. record { number = n; width = x.width } in
    let same : make (0 + x.number) ≡ make x.number = ap make number in
    (x.number, omega (arith, c.0, map-length (variable_at terms) order), get_or-map (variable_at terms) order x.number (record { index = 0 }) x c.0 ∙ (c.1 ∙ same))
