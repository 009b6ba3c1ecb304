-- The least number found, over each run of the board.
use Rattle.std.proofs.Common.{◌≡◌, ℕ, Bool, true, false, suc, ◌+◌, ◌-◌, ◌<◌, ◌≤◌, List, [], ◌∷◌, ◌++◌, length, set, cond, refl, sym, ◌∙◌, subst, arith, eqb, eq-eqb, nat_lt, inl, inr, ◌⊎◌, ⊎_elim}
use Rattle.std.specs.Prelude.{sum_by, All, Any, Contains, min}
use Rattle.std.proofs.Math.Nat.{min-eq_left, min-eq_right}
use Rattle.std.proofs.lemmas.List.Elements.{All-append, All-cons, All-nil, All-push, All-set, All-weaker, Contains-append_left, Contains-append_right}
use Rattle.std.proofs.lemmas.List.Sums.{sum_by-append, sum_by-cons}
use mathlib.Core.Logic.{dite}
use mathlib.Core.Option.{some}
use native.Mathlib.Decide.{dec_le, ℕ_discrete}
use lib.ListN.{get_elem?}
use Rattle.atomic_table.proofs.Lists.{set_else}
use Rattle.claim_board.specs.declared.board.Hand.{Hand}
use Rattle.claim_board.specs.Board.{hand, with_found, with_passed, times, BoardRun, begins, claims, finds, looks, splits, joins, FitsLeast, IsLeastFound}
use Rattle.claim_board.proofs.Runs.{at_place, sum_after, times-append, others_drew_none}

-- ---- one seat

fits_none : (n w a : ℕ) → FitsLeast n w (hand [] [] [] a)
fits_none n w a = record { found = All-nil _; passed = All-nil _; found_drawn = All-nil _; passed_drawn = All-nil _ }

fits_lower : (n w m : ℕ) (v : Hand) → m ≤ w → FitsLeast n w v → FitsLeast n m v
fits_lower n w m v lower fits = record {
  found = All-weaker (λ k. w ≤ k) (λ k. m ≤ k) (λ k h. omega arith) v.found fits.found;
  passed = All-weaker (λ k. (w < k) × (k < n)) (λ k. (m < k) × (k < n)) (λ k h. let above = h.0 in (omega arith, h.1)) v.passed fits.passed;
  found_drawn = fits.found_drawn;
  passed_drawn = fits.passed_drawn;
}

fits_claim : (n w c a : ℕ) (v : Hand) → FitsLeast n w v → FitsLeast n w (hand (v.drawn ++ c ∷ []) v.found v.passed a)
fits_claim n w c a v fits = record {
  found = fits.found;
  passed = fits.passed;
  found_drawn = All-weaker (Contains v.drawn) (Contains (v.drawn ++ c ∷ [])) (Contains-append_left v.drawn (c ∷ [])) v.found fits.found_drawn;
  passed_drawn = All-weaker (Contains v.drawn) (Contains (v.drawn ++ c ∷ [])) (Contains-append_left v.drawn (c ∷ [])) v.passed fits.passed_drawn;
}

fits_allowance : (n w a : ℕ) (v : Hand) → FitsLeast n w v → FitsLeast n w (hand v.drawn v.found v.passed a)
fits_allowance n w a v fits = record { found = fits.found; passed = fits.passed; found_drawn = fits.found_drawn; passed_drawn = fits.passed_drawn }

fits_found : (n w k : ℕ) (v : Hand) → w ≤ k → Contains v.drawn k → FitsLeast n w v → FitsLeast n w (with_found k v)
fits_found n w k v above drawn fits = record {
  found = All-push (λ x. w ≤ x) v.found k fits.found above;
  passed = fits.passed;
  found_drawn = All-push (Contains v.drawn) v.found k fits.found_drawn drawn;
  passed_drawn = fits.passed_drawn;
}

fits_look : (n w k : ℕ) (v : Hand) (passes : Bool) → nat_lt w k ≡ passes → k < n → Contains v.drawn k → FitsLeast n w v → FitsLeast n w (with_passed passes k v)
fits_look n w k v false is below drawn fits = fits_allowance n w v.allowance v fits
fits_look n w k v true is below drawn fits =
    let above : w < k = grind arith in record {
      found = fits.found;
      passed = All-push (λ x. (w < x) × (x < n)) v.passed k fits.passed (above, below);
      found_drawn = fits.found_drawn;
      passed_drawn = All-push (Contains v.drawn) v.passed k fits.passed_drawn drawn;
    }

all_both : (xs ys us vs : List ℕ) → All (Contains xs) us → All (Contains ys) vs → All (Contains (xs ++ ys)) (us ++ vs)
all_both xs ys us vs a b = All-append (Contains (xs ++ ys)) us vs
    (All-weaker (Contains xs) (Contains (xs ++ ys)) (Contains-append_left xs ys) us a)
    (All-weaker (Contains ys) (Contains (xs ++ ys)) (Contains-append_right xs ys) vs b)

fits_both : (n w a : ℕ) (u v : Hand) → FitsLeast n w u → FitsLeast n w v → FitsLeast n w (hand (u.drawn ++ v.drawn) (u.found ++ v.found) (u.passed ++ v.passed) a)
fits_both n w a u v p q = record {
  found = All-append (λ k. w ≤ k) u.found v.found p.found q.found;
  passed = All-append (λ k. (w < k) × (k < n)) u.passed v.passed p.passed q.passed;
  found_drawn = all_both u.drawn v.drawn u.found v.found p.found_drawn q.found_drawn;
  passed_drawn = all_both u.drawn v.drawn u.passed v.passed p.passed_drawn q.passed_drawn;
}

fits_at : (n w : ℕ) (seats : List Hand) (seat : ℕ) (v : Hand) → All (FitsLeast n w) seats → get_elem? seats seat ≡ some v → FitsLeast n w v
fits_at n w seats seat v each at = let p = at_place seats seat v at in subst (FitsLeast n w) p.1 (each seat v p.0)

-- ---- each run

-- the least of two is the one or the other
found_least : (n w k : ℕ) (seats : List Hand) (seat : ℕ) (v : Hand) → get_elem? seats seat ≡ some v → (w ≡ n) ⊎ (0 < sum_by (λ h. times w h.found) seats) → Dec (w ≤ k)
    → (min w k ≡ n) ⊎ (0 < sum_by (λ h. times (min w k) h.found) (set seats seat (with_found k v)))
found_least n w k seats seat v at known (yes low) =
    subst (λ m. (m ≡ n) ⊎ (0 < sum_by (λ h. times m h.found) (set seats seat (with_found k v)))) (sym (min-eq_left low)) (⊎_elim inl
    (λ some.
    let s = sum_after (λ h. times w h.found) seats seat v (with_found k v) at in
    inr (omega (arith, times-append w v.found (k ∷ []))))
    known)
found_least n w k seats seat v at known (no high) =
    subst (λ m. (m ≡ n) ⊎ (0 < sum_by (λ h. times m h.found) (set seats seat (with_found k v)))) (sym (min-eq_right (omega arith)))
    (let s = sum_after (λ h. times k h.found) seats seat v (with_found k v) at in
    let one : times k (k ∷ []) ≡ 1 = let same = eq-eqb k k refl in grind arith in
    inr (omega (arith, times-append k v.found (k ∷ []))))

pub IsLeastFound-run : (n total c w : ℕ) (seats : List Hand) → BoardRun n total c w seats → IsLeastFound n w seats
IsLeastFound-run n total c w seats begins = record { each = All-cons (FitsLeast n n) (hand [] [] [] total) [] (fits_none n n total) (All-nil _); some_found = inl refl }
IsLeastFound-run n total c w seats (claims m l before seat v run at room) =
    let known = IsLeastFound-run n total m l before run in
    let u = hand (v.drawn ++ m ∷ []) v.found v.passed (v.allowance - 1) in
    let s = sum_after (λ h. times l h.found) before seat v u at in record {
      each = All-set (FitsLeast n l) before seat u (fits_claim n l m (v.allowance - 1) v (fits_at n l before seat v known.each at)) known.each;
      some_found = ⊎_elim inl (λ some. inr (omega arith)) known.some_found;
    }
IsLeastFound-run n total c w seats (finds m l before seat v k run at below drawn once) =
    let known = IsLeastFound-run n total m l before run in
    let low : min l k ≤ l = omega arith in
    let also : min l k ≤ k = omega arith in
    let fits = fits_lower n l (min l k) v low (fits_at n l before seat v known.each at) in record {
      each = All-set (FitsLeast n (min l k)) before seat (with_found k v) (fits_found n (min l k) k v also drawn fits)
          (All-weaker (FitsLeast n l) (FitsLeast n (min l k)) (λ u. fits_lower n l (min l k) u low) before known.each);
      some_found = found_least n l k before seat v at known.some_found (dec_le l k);
    }
IsLeastFound-run n total c w seats (looks m l before seat v k run at below drawn) =
    let known = IsLeastFound-run n total m l before run in
    let u = with_passed (nat_lt l k) k v in
    let s = sum_after (λ h. times l h.found) before seat v u at in record {
      each = All-set (FitsLeast n l) before seat u (fits_look n l k v (nat_lt l k) refl below drawn (fits_at n l before seat v known.each at)) known.each;
      some_found = ⊎_elim inl (λ some. inr (omega arith)) known.some_found;
    }
IsLeastFound-run n total c w seats (splits m l before seat v part run at enough) =
    let known = IsLeastFound-run n total m l before run in
    let u = hand v.drawn v.found v.passed (v.allowance - part) in
    let s = sum_after (λ h. times l h.found) before seat v u at in record {
      each = All-push (FitsLeast n l) (set before seat u) (hand [] [] [] part)
          (All-set (FitsLeast n l) before seat u (fits_allowance n l (v.allowance - part) v (fits_at n l before seat v known.each at)) known.each)
          (fits_none n l part);
      some_found = ⊎_elim inl (λ some. inr (omega (arith, sum_by-append (λ h. times l h.found) (set before seat u) (hand [] [] [] part ∷ [])))) known.some_found;
    }
IsLeastFound-run n total c w seats (joins m l before seat other u v run at apart there) =
    let known = IsLeastFound-run n total m l before run in
    let both = hand (u.drawn ++ v.drawn) (u.found ++ v.found) (u.passed ++ v.passed) (u.allowance + v.allowance) in
    let still : get_elem? (set before seat both) other ≡ some v = set_else before seat other both apart ∙ there in
    let s = sum_after (λ h. times l h.found) before seat u both at in
    let t = sum_after (λ h. times l h.found) (set before seat both) other v (hand [] [] [] 0) still in
    let fits = fits_both n l (u.allowance + v.allowance) u v (fits_at n l before seat u known.each at) (fits_at n l before other v known.each there) in record {
      each = All-set (FitsLeast n l) (set before seat both) other (hand [] [] [] 0) (fits_none n l 0) (All-set (FitsLeast n l) before seat both fits known.each);
      some_found = ⊎_elim inl (λ some. inr (omega (arith, times-append w u.found v.found))) known.some_found;
    }

-- the second word is at most each number that a seat has found
pub least_at : (n total c w : ℕ) (seats : List Hand) (seat : ℕ) (v : Hand) → BoardRun n total c w seats → get_elem? seats seat ≡ some v → All (λ k. w ≤ k) v.found
least_at n total c w seats seat v run at = (fits_at n w seats seat v (IsLeastFound-run n total c w seats run).each at).found

-- ---- a seat that holds all that was drawn

times_none : (x : ℕ) (drawn found : List ℕ) → length drawn ≡ 0 → All (Contains drawn) found → times x found ≡ 0
times_none x drawn [] none inside = refl
times_none x drawn (k ∷ ks) none inside = let there = (inside 0 k (omega arith)).1 in absurd (omega arith)

found_none : (n w : ℕ) (seats : List Hand) → All (FitsLeast n w) seats → sum_by (λ v. length v.drawn) seats ≡ 0 → sum_by (λ v. times w v.found) seats ≡ 0
found_none n w [] each none = refl
found_none n w (v ∷ vs) each none =
    let l = sum_by-cons (λ (h : Hand). length h.drawn) v vs in
    let t = sum_by-cons (λ (h : Hand). times w h.found) v vs in
    let here : times w v.found ≡ 0 = times_none w v.drawn v.found (omega arith) (each 0 v (omega arith)).found_drawn in
    let rest : sum_by (λ h. times w h.found) vs ≡ 0 = found_none n w vs (λ i d inside. each (suc i) d (omega arith)) (omega arith) in
    omega arith

pub Contains-cons : {X : Type 0} (x y : X) (xs : List X) → Contains xs x → Contains (y ∷ xs) x
Contains-cons x y xs (k, l, e) = (suc k, omega arith, e)

-- what occurs in a list at least once is in it
pub Contains-times : (x : ℕ) (xs : List ℕ) → 0 < times x xs → Contains xs x
Contains-times x [] h = absurd (omega arith)
Contains-times x (y ∷ ys) h = dite (ℕ_discrete y x)
    (λ same. (0, omega arith, same))
    (λ other. Contains-cons x y ys (Contains-times x ys (grind (arith, sum_by-cons (λ z. cond (eqb z x) 1 0) y ys))))

-- it passed over only numbers above one that it found
pub all_passed : (n total c w : ℕ) (seats : List Hand) (seat : ℕ) (v : Hand) → BoardRun n total c w seats → get_elem? seats seat ≡ some v → length v.drawn + v.allowance ≡ total
    → All (λ x. Any (λ k. k < x) v.found) v.passed
all_passed n total c w seats seat v run at whole =
    let known = IsLeastFound-run n total c w seats run in
    let fits = fits_at n w seats seat v known.each at in
    let nobody = hand [] [] [] 0 in
    let none : sum_by (λ h. times w h.found) (set seats seat nobody) ≡ 0 =
    found_none n w (set seats seat nobody) (All-set (FitsLeast n w) seats seat nobody (fits_none n w 0) known.each) (others_drew_none n total c w seats seat v run at whole)
    in
    let s = sum_after (λ h. times w h.found) seats seat v nobody at in
    All-weaker (λ x. (w < x) × (x < n)) (λ x. Any (λ k. k < x) v.found)
    (λ x above. ⊎_elim
    (λ e. let low = above.0 in let high = above.1 in absurd (omega arith))
    (λ some. let at_least = Contains-times w v.found (omega arith) in (at_least.0, w, at_least.1, at_least.2, above.0))
    known.some_found)
    v.passed fits.passed
