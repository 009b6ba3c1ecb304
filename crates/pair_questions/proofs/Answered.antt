-- What is answered in bits is answered in numbers.
use Rattle.pair_questions.proofs.Common.{ℕ, zero, suc, ◌≡◌, ◌<◌, ◌+◌, ◌%◌, ◌^◌, inl, inr, Bool, List, [], ◌∷◌, Some, slice_get, map, length, arith, sym, ap, subst, refl, ◌∙◌, slice_index, TermId, Term, Variable, Tree, truth, AreFit, term_at, tree_in, Cnf, AreWidths, IsLeast, NonePass, numbers_of, total, fits-numbers, Mentions, assigned_by, digit_count, goal_test, variables_of, tree_placed, AsksNumbers, looked_up, number_test, AreNumbered, IsNumbered, IsOrder}
use Rattle.bv_terms.specs.declared.term.Term.TheVariants as term
use Rattle.bv_terms.specs.Tree as tree
use Rattle.bv_terms.specs.Tree.{value_of}
use Rattle.clause_search.specs.Outcome.{IsLess}
use Rattle.answer_order.proofs.Ordering.{least_digits, no_digits}
use Rattle.sat_ask.specs.Asks as asks
use Rattle.sat_ask.specs.Asks.{Asks}
use Rattle.pair_questions.proofs.Mentioned.{terms_only}
use Rattle.pair_questions.proofs.Numbered.{count_is, numbers-looked, numbers-written, variables_are, variables_from}

-- assignments that agree on what a tree mentions give it one value
agree : (v w : ℕ → ℕ → ℕ) (t : Tree) → ((x : Variable) → Mentions x t → v x.number x.width % 2 ^ x.width ≡ w x.number x.width % 2 ^ x.width) → value_of v t ≡ value_of w t
agree v w (tree.Constant value width) h = refl
agree v w (tree.Variable number width) h = h (record { number = number; width = width }) refl
agree v w (tree.Not a width) h = rw (agree v w a h) refl
agree v w (tree.Binary op a b width) h = rw (agree v w a (λ x m. h x (inl m)), agree v w b (λ x m. h x (inr m))) refl
agree v w (tree.Ite c a b width) h = rw (agree v w c (λ x m. h x (inl m)), agree v w a (λ x m. h x (inr (inl m))), agree v w b (λ x m. h x (inr (inr m)))) refl
agree v w (tree.Extract a from width) h = rw (agree v w a h) refl
agree v w (tree.Concat high low below width) h = rw (agree v w high (λ x m. h x (inl m)), agree v w low (λ x m. h x (inr m))) refl
agree v w (tree.Zext a width) h = rw (agree v w a h) refl
agree v w (tree.Sext a from width) h = rw (agree v w a h) refl

-- where all terms of an order have one value, so have its variables
same-at : (terms : List Term) (from : ℕ) (order : List TermId) (widths : List ℕ) (v w : ℕ → ℕ → ℕ) (k width : ℕ) → AreFit [] terms → AreNumbered terms from order widths
    → map (term_at v terms) order ≡ map (term_at w terms) order → slice_get widths k ≡ Some width → v (from + k) width % 2 ^ width ≡ w (from + k) width % 2 ^ width
same-at terms from [] [] v w k width fit h e at = absurd (let z : ⊥ = cc in z)
same-at terms from (a ∷ rest) (u ∷ us) v w zero width fit h e at =
    let same : u ≡ width = cc in
    let head : term_at v terms a ≡ term_at w terms a = cc in
    let placed = tree_placed terms a.index (term.Variable from u) fit h.0 in
    let here : v from u % 2 ^ u ≡ w from u % 2 ^ u = sym (ap (value_of v) placed) ∙ (head ∙ ap (value_of w) placed) in
    let number : from ≡ from + 0 = omega arith in
    subst (λ n. v n width % 2 ^ width ≡ w n width % 2 ^ width) number (subst (λ k. v from k % 2 ^ k ≡ w from k % 2 ^ k) same here)
same-at terms from (a ∷ rest) (u ∷ us) v w (suc k) width fit h e at =
    let tail : map (term_at v terms) rest ≡ map (term_at w terms) rest = cc in
    let number : from + 1 + k ≡ from + suc k = omega arith in
    subst (λ n. v n width % 2 ^ width ≡ w n width % 2 ^ width) number (same-at terms (from + 1) rest us v w k width fit h.1 tail at)
same-at terms from [] (u ∷ us) v w k width fit h e at = absurd h
same-at terms from (a ∷ rest) [] v w k width fit h e at = absurd h

module _ (terms : List Term) (goal : TermId) (order : List TermId) (widths : List ℕ) (fit : AreFit [] terms) (is : IsOrder terms order widths) (within : goal.index < length terms) where
  same_test : (digits : List Bool) → length digits ≡ total widths → goal_test terms goal order digits ≡ number_test terms goal (numbers_of widths digits)
  same_test digits long =
      let numbers = numbers_of widths digits in
      let names = variables_are terms 0 order widths is.numbered in
      let v : ℕ → ℕ → ℕ = assigned_by (variables_from 0 widths) digits in
      let written = numbers-written terms 0 order widths v digits fit is.numbered (λ number width le. refl) long in
      let looked = numbers-looked terms 0 order widths (looked_up numbers) numbers fit is.numbered (λ i width. let e : 0 + i ≡ i = omega arith in ap (slice_index numbers) e) (fits-numbers widths digits long) in
      let values : value_of v (tree_in terms goal) ≡ value_of (looked_up numbers) (tree_in terms goal) =
      agree v (looked_up numbers) (tree_in terms goal) (λ x m.
      let at = terms_only (IsNumbered widths) terms goal fit is.named within x m in
      let e : 0 + x.number ≡ x.number = omega arith in
      subst (λ n. v n x.width % 2 ^ x.width ≡ looked_up numbers n x.width % 2 ^ x.width) e
      (same-at terms 0 order widths v (looked_up numbers) x.number x.width fit is.numbered (written ∙ sym looked) at)) in
      ap (λ (xs : List Variable). truth (value_of (assigned_by xs digits) (tree_in terms goal))) names ∙ ap truth values

  count : digit_count (variables_of terms order) ≡ total widths
  count = count_is terms order widths is.numbered

  pub asks_numbers : (cnf : Cnf) → Asks (goal_test terms goal order) (digit_count (variables_of terms order)) cnf → AsksNumbers (number_test terms goal) widths cnf
  asks_numbers cnf h = record { of_digits = goal_test terms goal order; asks = subst (λ n. Asks (goal_test terms goal order) n cnf) count h; means = same_test }

  pub long_digits : (digits : List Bool) → asks.IsLeastOf (goal_test terms goal order) (digit_count (variables_of terms order)) digits → length digits ≡ total widths
  long_digits digits h = h.long ∙ count

  pub least_is : (digits : List Bool) (numbers : List ℕ) → AreWidths widths → asks.IsLeastOf (goal_test terms goal order) (digit_count (variables_of terms order)) digits
      → numbers ≡ numbers_of widths digits → IsLeast (number_test terms goal) widths numbers
  least_is digits numbers small h e = subst (λ (ns : List ℕ). IsLeast (number_test terms goal) widths ns) (sym e) (least_digits widths (number_test terms goal) digits small (record {
    long = h.long ∙ count;
    passes = sym (same_test digits (h.long ∙ count)) ∙ h.passes;
    least = λ others l t lt. h.least others (l ∙ sym count) (same_test others l ∙ t) (subst (λ n. IsLess n others digits) (sym count) lt);
  }))

  pub none_is : asks.NonePass (goal_test terms goal order) (digit_count (variables_of terms order)) → NonePass (number_test terms goal) widths
  none_is h = no_digits widths (number_test terms goal) (λ digits l t. h digits (l ∙ sym count) (same_test digits l ∙ t))
