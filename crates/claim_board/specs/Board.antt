-- The board as plain data: a count, the least number found, and for each seat the numbers that it has drawn, found and passed over, and how many it may still draw.
use Rattle.std.specs.Prelude.{◌≡◌, ◌≢◌, ℕ, Bool, ◌+◌, ◌-◌, ◌<◌, ◌≤◌, List, [], ◌∷◌, ◌++◌, slice_set, sum_by, count_by, ◌==◌, nat_lt, if◌then◌else◌, min, All, Contains}
use mathlib.Core.Logic.{◌⊎◌}
use mathlib.Core.Option.{some}
use lib.ListN.{get_elem?}
use Rattle.claim_board.specs.declared.board.Hand.{Hand}

abbrev pub hand : List ℕ → List ℕ → List ℕ → ℕ → Hand
hand drawn found passed allowance = record { drawn = drawn; found = found; passed = passed; allowance = allowance }

-- the seat has found k
abbrev pub with_found : ℕ → Hand → Hand
with_found k v = hand v.drawn (v.found ++ k ∷ []) v.passed v.allowance

-- the seat has passed k over, if it passes
abbrev pub with_passed : Bool → ℕ → Hand → Hand
with_passed passes k v = hand v.drawn v.found (if passes then v.passed ++ k ∷ [] else v.passed) v.allowance

-- how often x occurs in the list
abbrev pub times : ℕ → List ℕ → ℕ
times x xs = count_by (λ y. y == x) xs

-- 1 where x is below c, else 0
abbrev pub once_below : ℕ → ℕ → ℕ
once_below x c = if nat_lt x c then 1 else 0

-- the counts, the least numbers found, and the seats that come about by claims, finds, looks, splits and joins
-- from 0, n (none found), and one seat with the whole allowance
pub data BoardRun (n total : ℕ) : ℕ → ℕ → List Hand → Type 0 where
  begins : BoardRun n total 0 n (hand [] [] [] total ∷ [])
  claims : (c w : ℕ) (seats : List Hand) (seat : ℕ) (v : Hand) → BoardRun n total c w seats → get_elem? seats seat ≡ some v → 0 < v.allowance
      → BoardRun n total (c + 1) w (slice_set seats seat (hand (v.drawn ++ c ∷ []) v.found v.passed (v.allowance - 1)))
  finds : (c w : ℕ) (seats : List Hand) (seat : ℕ) (v : Hand) (k : ℕ) → BoardRun n total c w seats → get_elem? seats seat ≡ some v → k < n → Contains v.drawn k → ¬ Contains v.found k
      → BoardRun n total c (min w k) (slice_set seats seat (with_found k v))
  looks : (c w : ℕ) (seats : List Hand) (seat : ℕ) (v : Hand) (k : ℕ) → BoardRun n total c w seats → get_elem? seats seat ≡ some v → k < n → Contains v.drawn k
      → BoardRun n total c w (slice_set seats seat (with_passed (nat_lt w k) k v))
  splits : (c w : ℕ) (seats : List Hand) (seat : ℕ) (v : Hand) (part : ℕ) → BoardRun n total c w seats → get_elem? seats seat ≡ some v → part ≤ v.allowance
      → BoardRun n total c w (slice_set seats seat (hand v.drawn v.found v.passed (v.allowance - part)) ++ hand [] [] [] part ∷ [])
  joins : (c w : ℕ) (seats : List Hand) (seat other : ℕ) (u v : Hand) → BoardRun n total c w seats → get_elem? seats seat ≡ some u → other ≢ seat → get_elem? seats other ≡ some v
      → BoardRun n total c w (slice_set (slice_set seats seat (hand (u.drawn ++ v.drawn) (u.found ++ v.found) (u.passed ++ v.passed) (u.allowance + v.allowance))) other (hand [] [] [] 0))

-- each number below c is in the list of one seat, once, and no other number is in a list; c and all allowances add up to the total
pub record IsDrawn (total c : ℕ) (seats : List Hand) : Type 0 where
  pub once : (x : ℕ) → sum_by (λ v. times x v.drawn) seats ≡ once_below x c
  pub budget : c + sum_by (λ v. v.allowance) seats ≡ total

-- what the seat has found is w or above, and what it passed over is above w; it has drawn both
pub record FitsLeast (n w : ℕ) (v : Hand) : Type 0 where
  pub found : All (λ k. w ≤ k) v.found
  pub passed : All (λ k. (w < k) × (k < n)) v.passed
  pub found_drawn : All (Contains v.drawn) v.found
  pub passed_drawn : All (Contains v.drawn) v.passed

-- w is the least number that a seat has found, or n where none has found any
pub record IsLeastFound (n w : ℕ) (seats : List Hand) : Type 0 where
  pub each : All (FitsLeast n w) seats
  pub some_found : (w ≡ n) ⊎ (0 < sum_by (λ v. times w v.found) seats)

-- a run of the board gives this count, and one of its seats is this
abbrev pub HasRun : ℕ → ℕ → ℕ → Hand → Type 0
HasRun n total c v = (w : ℕ) × (seats : List Hand) × (seat : ℕ) × BoardRun n total c w seats × (get_elem? seats seat ≡ some v)

-- in each run each number below the count is in the list of one seat, once, and no other number is in a list
abbrev pub EachRunIsDrawn : Type 0
EachRunIsDrawn = (n total c w : ℕ) (seats : List Hand) → BoardRun n total c w seats → IsDrawn total c seats

-- in each run the second word is the least number found, and only numbers above it are passed over
abbrev pub EachRunHasLeastFound : Type 0
EachRunHasLeastFound = (n total c w : ℕ) (seats : List Hand) → BoardRun n total c w seats → IsLeastFound n w seats
