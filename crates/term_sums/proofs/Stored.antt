-- What is read of a list of terms.
use Rattle.term_sums.proofs.Common.{ap, ℕ, ◌≡◌, ◌<◌, ◌+◌, List, length, arith, ◌∙◌, subst, zero, suc, ◌≤◌, [], ◌∷◌, ◌++◌, get_or, slice_get, Some, term_place, length-trees, tree-stored, trees-front, within-more, Tree, width_of, tree_in, AreFit, AreMatched, IsFit, IsWithin, tree_at, tree_of, trees_from, trees_of, Term, TermId}
use Rattle.bv_terms.specs.declared.term.Term.TheVariants as term
use Rattle.bv_terms.specs.Tree as tree

-- widths go together over lists that agree on what the term names
module _ (early late : List Tree) (same : (a : TermId) → a.index < length early → tree_at late a ≡ tree_at early a) where
  one : (a : TermId) (n : ℕ) → a.index < length early → width_of (tree_at early a) ≡ n → width_of (tree_at late a) ≡ n
  one a n lt e = ap width_of (same a lt) ∙ e

  matched_more : (t : Term) → IsWithin (length early) t → AreMatched early t → AreMatched late t
  matched_more (term.Constant value width) w m = m
  matched_more (term.Variable number width) w m = m
  matched_more (term.Not a width) w m = one a width w.1 m
  matched_more (term.Binary op a b width) w m = (one a width w.1 m.0, one b width w.2 m.1)
  matched_more (term.Ite c a b width) w m = (one a width w.1 m.0, one b width w.2 m.1, one c 1 w.3 m.2)
  matched_more (term.Extract a from width) w m = omega (arith, m, ap width_of (same a w.1))
  matched_more (term.Concat high low below width) w m = (one low below w.2 m.0, omega (arith, m.1, ap width_of (same high w.1)))
  matched_more (term.Zext a width) w m = omega (arith, m, ap width_of (same a w.1))
  matched_more (term.Sext a from width) w m = (one a from w.1 m.0, m.1, m.2)

-- the term at an index goes well after all terms
fit-from : (earlier : List Tree) (ts : List Term) (i : ℕ) (t : Term) → AreFit earlier ts → slice_get ts i ≡ Some t
    → IsFit (trees_from earlier ts) t
fit-from earlier [] i t fit e = absurd (let x : ⊥ = cc in x)
fit-from earlier (s ∷ ss) zero t fit e =
    let is : s ≡ t = cc in
    let longer : length earlier ≤ length (trees_from earlier (s ∷ ss)) = omega (arith, length-trees earlier (s ∷ ss)) in
    subst (λ (x : Term). IsFit (trees_from earlier (s ∷ ss)) x) is (record {
      within = within-more (length earlier) (length (trees_from earlier (s ∷ ss))) s longer fit.0.within;
      matched = matched_more earlier (trees_from earlier (s ∷ ss)) (λ a lt. trees-front earlier (s ∷ ss) a.index (tree.Constant 0 1) lt) s fit.0.within fit.0.matched;
    })
fit-from earlier (s ∷ ss) (suc i) t fit e = fit-from (earlier ++ tree_of earlier s ∷ []) ss i t fit.1 e

pub fit_at : (ts : List Term) (i : ℕ) (d : Term) → AreFit [] ts → i < length ts → IsFit (trees_of ts) (get_or ts i d)
unfolding trees_of
fit_at ts i d fit lt = fit-from [] ts i (get_or ts i d) fit (term_place ts i d lt)

pub within_at : (ts : List Term) (i : ℕ) (d : Term) → AreFit [] ts → i < length ts → IsWithin (length ts) (get_or ts i d)
unfolding trees_of
within_at ts i d fit lt =
    let whole : length (trees_from [] ts) ≡ length ts = omega (arith, length-trees [] ts) in
    subst (λ n. IsWithin n (get_or ts i d)) whole (fit-from [] ts i (get_or ts i d) fit (term_place ts i d lt)).within

pub tree_stored : (ts : List Term) (a : TermId) (t : Term) → AreFit [] ts → slice_get ts a.index ≡ Some t → tree_in ts a ≡ tree_of (trees_of ts) t
unfolding trees_of
tree_stored ts a t fit at =
    let zero_more : a.index ≡ 0 + a.index = omega arith in
    ap (λ k. get_or (trees_from [] ts) k (tree.Constant 0 1)) zero_more ∙ tree-stored [] ts a.index t fit at
