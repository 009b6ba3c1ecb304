-- What all workers bring back reaches each task, at its index.
use Rattle.std.proofs.Common.{◌≡◌, ℕ, Bool, zero, suc, ◌+◌, ◌<◌, ◌≤◌, List, [], ◌∷◌, cond, refl, sym, ap, ◌∙◌, subst, arith, eqb, eq-eqb, inl, inr, get_or}
use Rattle.std.specs.Prelude.{map, All, Any, Contains}
use Rattle.std.proofs.lemmas.List.Elements.{All-contains}
use Rattle.std.proofs.lemmas.List.Sums.{get_or-le-sum_by, sum_by-cons}
use native.Mathlib.Decide.{dec_le}
use Rattle.claim_board.specs.declared.board.Hand.{Hand}
use Rattle.claim_board.specs.Board.{times, once_below}
use Rattle.claim_board.proofs.Found.{Contains-times}
use Rattle.pair_driver.specs.declared.judged.Judged.{Judged}
use Rattle.pair_driver.specs.declared.place.Answer.{Answer}
use Rattle.pair_driver.specs.Draws.{AreFirst, AreUnique, ArePlaced, IsAllowedAt, IsDone, IsEndedAt, IsReached, StopsAtFirst}

times_some : (x : ℕ) (xs : List ℕ) → Contains xs x → 0 < times x xs
times_some x xs (k, inside, is) =
    let here = get_or-le-sum_by (λ y. cond (eqb y x) 1 0) xs k x inside in
    let same = eq-eqb (get_or xs k x) x is in
    grind arith

Any-map : {X : Type 0} (f : X → ℕ) (x : ℕ) (xs : List X) → Contains (map f xs) x → Any (λ y. f y ≡ x) xs
Any-map f x [] (k, l, e) = absurd (omega arith)
Any-map f x (y ∷ ys) (zero, l, e) = (0, y, omega arith, refl, e)
Any-map f x (y ∷ ys) (suc k, l, e) = let r = Any-map f x ys (k, omega arith, e) in let m = r.2 in (suc r.0, r.1, omega arith, r.3, r.4)

numbered : (answers : List Answer) (a : Answer) → Contains answers a → Contains (map (λ x. x.number) answers) a.number
numbered [] a (k, l, e) = absurd (omega arith)
numbered (y ∷ ys) a (zero, l, e) = (0, omega arith, ap (λ (z : Answer). z.number) e)
numbered (y ∷ ys) a (suc k, l, e) = let r = numbered ys a (k, omega arith, e) in let m = r.1 in (suc r.0, omega arith, r.2)

-- a number that occurs once is of one answer
one_answer : (x : ℕ) (answers : List Answer) → times x (map (λ a. a.number) answers) ≤ 1 → (a b : Answer) → Contains answers a → Contains answers b → a.number ≡ x → b.number ≡ x → a ≡ b
one_answer x [] few a b (k, l, e) there f g = absurd (omega arith)
one_answer x (y ∷ ys) few a b (zero, l, e) (zero, m, h) f g = sym e ∙ h
one_answer x (y ∷ ys) few a b (zero, l, e) (suc k, m, h) f g =
    let rest : 0 < times x (map (λ z. z.number) ys) = times_some x (map (λ z. z.number) ys) (subst (Contains (map (λ z. z.number) ys)) g (numbered ys b (k, omega arith, h))) in
    let here : 0 < cond (eqb y.number x) 1 0 = let same = eq-eqb y.number x (ap (λ (z : Answer). z.number) e ∙ f) in grind arith in
    let both = sum_by-cons (λ z. cond (eqb z x) 1 0) y.number (map (λ (z : Answer). z.number) ys) in
    absurd (omega arith)
one_answer x (y ∷ ys) few a b (suc k, l, e) (zero, m, h) f g =
    let rest : 0 < times x (map (λ z. z.number) ys) = times_some x (map (λ z. z.number) ys) (subst (Contains (map (λ z. z.number) ys)) f (numbered ys a (k, omega arith, e))) in
    let here : 0 < cond (eqb y.number x) 1 0 = let same = eq-eqb y.number x (ap (λ (z : Answer). z.number) h ∙ g) in grind arith in
    let both = sum_by-cons (λ z. cond (eqb z x) 1 0) y.number (map (λ (z : Answer). z.number) ys) in
    absurd (omega arith)
one_answer x (y ∷ ys) few a b (suc k, l, e) (suc j, m, h) f g =
    let both = sum_by-cons (λ z. cond (eqb z x) 1 0) y.number (map (λ (z : Answer). z.number) ys) in
    one_answer x ys (omega arith) a b (k, omega arith, e) (j, omega arith, h) f g

module _ (allows : ℕ → Judged → Type 0) (ends : Judged → Bool) (n : ℕ) where
  -- a task is answered or passed over, where the numbers drawn are those below c, and one of them is of no task
  each_once : (workers c : ℕ) (v : Hand) (answers : List Answer) → IsDone allows ends n workers v answers → ((x : ℕ) → times x v.drawn ≡ once_below x c) → All (λ x. x < c) v.drawn
      → (x : ℕ) → x < n → times x (map (λ a. a.number) answers) + times x v.passed ≡ 1
  each_once workers c v answers done once below x inside =
      let last = done.ended in
      let past : last.1 < c = subst (λ y. y < c) last.3 (below last.0 last.1 last.2) in
      let far = last.4 in
      let low : x < c = omega arith in
      let drawn = once x in
      let counted = done.counted x inside in
      let one : once_below x c ≡ 1 = grind arith in
      omega arith

  reached : (v : Hand) (answers : List Answer) (x : ℕ) → times x (map (λ a. a.number) answers) + times x v.passed ≡ 1 → All (IsEndedAt ends answers) v.found → All (λ y. Any (λ k. k < y) v.found) v.passed
      → Dec (1 ≤ times x (map (λ a. a.number) answers)) → IsReached ends answers x
  reached v answers x once found passed (yes some) = inl (Any-map (λ a. a.number) x answers (Contains-times x (map (λ a. a.number) answers) (omega arith)))
  reached v answers x once found passed (no none) =
      let over : Contains v.passed x = Contains-times x v.passed (omega arith) in
      let first = All-contains (λ y. Any (λ k. k < y) v.found) v.passed x passed over in
      inr (first.1, first.4, All-contains (IsEndedAt ends answers) v.found first.1 found (first.0, first.2, first.3))

  pub each_reached : (workers c : ℕ) (v : Hand) (answers : List Answer) → IsDone allows ends n workers v answers → ((x : ℕ) → times x v.drawn ≡ once_below x c) → All (λ x. x < c) v.drawn
      → All (λ y. Any (λ k. k < y) v.found) v.passed → (x : ℕ) → x < n → IsReached ends answers x
  each_reached workers c v answers done once below passed x inside =
      reached v answers x (each_once workers c v answers done once below x inside) done.found passed (dec_le 1 (times x (map (λ a. a.number) answers)))

  pub all_unique : (workers c : ℕ) (v : Hand) (answers : List Answer) → IsDone allows ends n workers v answers → ((x : ℕ) → times x v.drawn ≡ once_below x c) → All (λ x. x < c) v.drawn → AreUnique answers
  all_unique workers c v answers done once below a b here there same =
      let inside : a.number < n = (All-contains (IsAllowedAt allows n) answers a done.allowed here).0 in
      let one = each_once workers c v answers done once below a.number inside in
      one_answer a.number answers (omega arith) a b here there refl (sym same)

  pub all_allowed : (workers : ℕ) (v : Hand) (answers : List Answer) (placed : List Judged) → IsDone allows ends n workers v answers → StopsAtFirst ends n placed → ArePlaced answers placed
      → AreFirst allows ends n placed
  all_allowed workers v answers placed done stops placed_right = record {
    stops = stops;
    each = λ i d inside. (All-contains (IsAllowedAt allows n) answers _ done.allowed (placed_right i d inside)).1;
  }
