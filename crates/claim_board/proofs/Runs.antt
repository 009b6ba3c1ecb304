-- What holds of each run of the board.
use Rattle.std.proofs.Common.{◌≡◌, ℕ, zero, suc, ◌+◌, ◌-◌, ◌<◌, ◌≤◌, List, [], ◌∷◌, ◌++◌, length, set, get_or, cond, refl, sym, ap, ◌∙◌, arith, eqb, nat_lt, eq-eqb, length-append}
use Rattle.std.specs.Prelude.{sum_by, All}
use mathlib.Core.Option.{some, some-injective, some-ne-none}
use lib.ListN.{get_elem?}
use Rattle.std.proofs.lemmas.List.Sums.{sum_by-append, sum_by-set, get_or-le-sum_by, sum_by-le-sum_by, count_by-le-length}
use Rattle.atomic_table.proofs.Lists.{set_else}
use Rattle.claim_board.specs.declared.board.Hand.{Hand}
use Rattle.claim_board.specs.Board.{hand, with_found, with_passed, times, once_below, BoardRun, begins, claims, finds, looks, splits, joins, IsDrawn}

module _ {A : Type 0} where
  pub at_place : (xs : List A) (i : ℕ) (x : A) → get_elem? xs i ≡ some x → (i < length xs) × (get_or xs i x ≡ x)
  at_place [] i x e = absurd (some-ne-none x (sym e))
  at_place (y ∷ ys) zero x e = (omega arith, some-injective y x e)
  at_place (y ∷ ys) (suc i) x e = let r = at_place ys i x e in let l = r.0 in (omega arith, r.1)

  -- a sum after a change at one index
  pub sum_after : (f : A → ℕ) (xs : List A) (i : ℕ) (x y : A) → get_elem? xs i ≡ some x → sum_by f (set xs i y) + f x ≡ sum_by f xs + f y
  sum_after f xs i x y e = let p = at_place xs i x e in ap (λ z. sum_by f (set xs i y) + f z) (sym p.1) ∙ sum_by-set f xs i y x p.0

  pub le_sum : (f : A → ℕ) (xs : List A) (i : ℕ) (x : A) → get_elem? xs i ≡ some x → f x ≤ sum_by f xs
  le_sum f xs i x e = let p = at_place xs i x e in let h = get_or-le-sum_by f xs i x p.0 in let same : f (get_or xs i x) ≡ f x = ap f p.1 in omega arith

pub times-append : (x : ℕ) (xs ys : List ℕ) → times x (xs ++ ys) ≡ times x xs + times x ys
times-append x xs ys = sum_by-append (λ y. cond (eqb y x) 1 0) xs ys

-- one more number below
pub once_below_more : (x c : ℕ) → once_below x (c + 1) ≡ once_below x c + times x (c ∷ [])
once_below_more x c = grind arith

-- a step that changes neither what a seat has drawn nor what it may draw
IsDrawn-kept : (total c : ℕ) (seats : List Hand) (seat : ℕ) (v u : Hand) → get_elem? seats seat ≡ some v → u.drawn ≡ v.drawn → u.allowance ≡ v.allowance → IsDrawn total c seats → IsDrawn total c (set seats seat u)
IsDrawn-kept total c seats seat v u at same_drawn same_allowance known = record {
  once = λ x.
      let s = sum_after (λ h. times x h.drawn) seats seat v u at in
      let same = ap (times x) same_drawn in
      let k = known.once x in
      omega arith;
  budget =
      let s = sum_after (λ h. h.allowance) seats seat v u at in
      let k = known.budget in
      omega arith;
}

-- the sums of a run whose step changes one seat
pub IsDrawn-run : (n total c w : ℕ) (seats : List Hand) → BoardRun n total c w seats → IsDrawn total c seats
IsDrawn-run n total c w seats begins = record { once = λ x. grind arith; budget = grind arith }
IsDrawn-run n total c w seats (claims m l before seat v run at room) =
    let known = IsDrawn-run n total m l before run in
    let u = hand (v.drawn ++ m ∷ []) v.found v.passed (v.allowance - 1) in record {
      once = λ x.
          let s = sum_after (λ h. times x h.drawn) before seat v u at in
          let k = known.once x in
          omega (arith, times-append x v.drawn (m ∷ []), once_below_more x m);
      budget =
          let s = sum_after (λ h. h.allowance) before seat v u at in
          let k = known.budget in
          omega arith;
    }
IsDrawn-run n total c w seats (finds m l before seat v k run at below drawn once) =
    IsDrawn-kept total m before seat v (with_found k v) at refl refl (IsDrawn-run n total m l before run)
IsDrawn-run n total c w seats (looks m l before seat v k run at below drawn) =
    IsDrawn-kept total m before seat v (with_passed (nat_lt l k) k v) at refl refl (IsDrawn-run n total m l before run)
IsDrawn-run n total c w seats (splits m l before seat v part run at enough) =
    let known = IsDrawn-run n total m l before run in
    let u = hand v.drawn v.found v.passed (v.allowance - part) in record {
      once = λ x.
          let s = sum_after (λ h. times x h.drawn) before seat v u at in
          let k = known.once x in
          omega (arith, sum_by-append (λ h. times x h.drawn) (set before seat u) (hand [] [] [] part ∷ []));
      budget =
          let s = sum_after (λ h. h.allowance) before seat v u at in
          let k = known.budget in
          omega (arith, sum_by-append (λ h. h.allowance) (set before seat u) (hand [] [] [] part ∷ []));
    }
IsDrawn-run n total c w seats (joins m l before seat other u v run at apart there) =
    let known = IsDrawn-run n total m l before run in
    let both = hand (u.drawn ++ v.drawn) (u.found ++ v.found) (u.passed ++ v.passed) (u.allowance + v.allowance) in
    let still : get_elem? (set before seat both) other ≡ some v = set_else before seat other both apart ∙ there in record {
      once = λ x.
          let s = sum_after (λ h. times x h.drawn) before seat u both at in
          let t = sum_after (λ h. times x h.drawn) (set before seat both) other v (hand [] [] [] 0) still in
          let k = known.once x in
          omega (arith, times-append x u.drawn v.drawn);
      budget =
          let s = sum_after (λ h. h.allowance) before seat u both at in
          let t = sum_after (λ h. h.allowance) (set before seat both) other v (hand [] [] [] 0) still in
          let k = known.budget in
          omega arith;
    }

-- all that a seat has drawn is below the count
pub drawn_below : (n total c w : ℕ) (seats : List Hand) (seat : ℕ) (v : Hand) → BoardRun n total c w seats → get_elem? seats seat ≡ some v → All (λ x. x < c) v.drawn
drawn_below n total c w seats seat v run at = λ k d inside.
    let x : ℕ = get_or v.drawn k d in
    let stands : cond (eqb x x) 1 0 ≤ times x v.drawn = get_or-le-sum_by (λ y. cond (eqb y x) 1 0) v.drawn k d inside in
    let mine : times x v.drawn ≤ sum_by (λ u. times x u.drawn) seats = le_sum (λ u. times x u.drawn) seats seat v at in
    let once : sum_by (λ u. times x u.drawn) seats ≡ once_below x c = (IsDrawn-run n total c w seats run).once x in
    let one : 1 ≤ once_below x c = let same = eq-eqb x x refl in grind arith in
    grind arith

-- the count with an allowance is within the total
pub count_within : (n total c w : ℕ) (seats : List Hand) (seat : ℕ) (v : Hand) → BoardRun n total c w seats → get_elem? seats seat ≡ some v → c + v.allowance ≤ total
count_within n total c w seats seat v run at =
    let budget = (IsDrawn-run n total c w seats run).budget in
    let mine = le_sum (λ u. u.allowance) seats seat v at in
    omega arith

-- the number of numbers drawn is the count
pub lengths-run : (n total c w : ℕ) (seats : List Hand) → BoardRun n total c w seats → sum_by (λ v. length v.drawn) seats ≡ c
lengths-run n total c w seats begins = grind arith
lengths-run n total c w seats (claims m l before seat v run at room) =
    let s = sum_after (λ h. length h.drawn) before seat v (hand (v.drawn ++ m ∷ []) v.found v.passed (v.allowance - 1)) at in
    let k = lengths-run n total m l before run in
    omega (arith, length-append v.drawn (m ∷ []))
lengths-run n total c w seats (finds m l before seat v k run at below drawn once) =
    let s = sum_after (λ h. length h.drawn) before seat v (with_found k v) at in
    let known = lengths-run n total m l before run in
    omega arith
lengths-run n total c w seats (looks m l before seat v k run at below drawn) =
    let s = sum_after (λ h. length h.drawn) before seat v (with_passed (nat_lt l k) k v) at in
    let known = lengths-run n total m l before run in
    omega arith
lengths-run n total c w seats (splits m l before seat v part run at enough) =
    let u = hand v.drawn v.found v.passed (v.allowance - part) in
    let s = sum_after (λ h. length h.drawn) before seat v u at in
    let k = lengths-run n total m l before run in
    omega (arith, sum_by-append (λ h. length h.drawn) (set before seat u) (hand [] [] [] part ∷ []))
lengths-run n total c w seats (joins m l before seat other u v run at apart there) =
    let both = hand (u.drawn ++ v.drawn) (u.found ++ v.found) (u.passed ++ v.passed) (u.allowance + v.allowance) in
    let still : get_elem? (set before seat both) other ≡ some v = set_else before seat other both apart ∙ there in
    let s = sum_after (λ h. length h.drawn) before seat u both at in
    let t = sum_after (λ h. length h.drawn) (set before seat both) other v (hand [] [] [] 0) still in
    let k = lengths-run n total m l before run in
    omega (arith, length-append u.drawn v.drawn)

-- where a seat's numbers and allowance are the total, the others have drawn nothing
pub others_drew_none : (n total c w : ℕ) (seats : List Hand) (seat : ℕ) (v : Hand) → BoardRun n total c w seats → get_elem? seats seat ≡ some v → length v.drawn + v.allowance ≡ total
    → sum_by (λ h. length h.drawn) (set seats seat (hand [] [] [] 0)) ≡ 0
others_drew_none n total c w seats seat v run at whole =
    let budget = (IsDrawn-run n total c w seats run).budget in
    let lengths = lengths-run n total c w seats run in
    let a = sum_after (λ u. u.allowance) seats seat v (hand [] [] [] 0) at in
    let l = sum_after (λ u. length u.drawn) seats seat v (hand [] [] [] 0) at in
    omega arith

-- a seat whose numbers and allowance are the total has drawn each number below the count, once, and nothing else
pub all_drawn : (n total c w : ℕ) (seats : List Hand) (seat : ℕ) (v : Hand) → BoardRun n total c w seats → get_elem? seats seat ≡ some v → length v.drawn + v.allowance ≡ total
    → (x : ℕ) → times x v.drawn ≡ once_below x c
all_drawn n total c w seats seat v run at whole x =
    let none = others_drew_none n total c w seats seat v run at whole in
    let others = set seats seat (hand [] [] [] 0) in
    let t = sum_after (λ u. times x u.drawn) seats seat v (hand [] [] [] 0) at in
    let few : sum_by (λ u. times x u.drawn) others ≤ sum_by (λ u. length u.drawn) others = sum_by-le-sum_by _ _ others (λ u. count_by-le-length (λ y. eqb y x) u.drawn) in
    let once = (IsDrawn-run n total c w seats run).once x in
    omega arith
