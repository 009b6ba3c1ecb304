-- The rule that the table keeps, and what each step reports to its seat.
use Rattle.std.specs.Prelude.{◌≡◌, ℕ, ◌-◌, ◌^◌, ◌<◌, ◌≤◌, [], ◌∷◌, ◌++◌, length, slice_index, nat_lt, All}
use Rattle.atomic_table.specs.Table.{State, Me, Step}
use Rattle.claim_board.specs.declared.board.Hand.{Hand}
use Rattle.claim_board.specs.declared.board.Limits.{Limits}
use Rattle.claim_board.specs.Board.{BoardRun, hand, with_found, with_passed}

-- word 0 is the count of a run, word 1 its least number found, and the views are its seats
abbrev pub IsRunning : Limits → State (Unit {0}) Hand → Type 0
IsRunning limits s = (length s.words ≡ 2) × (limits.total < 2 ^ 64) × BoardRun limits.items limits.total (slice_index s.words 0) (slice_index s.words 1) s.views

-- a claim found n: it is above all that the seat had drawn, and is appended to its list
abbrev pub claimed : Step (Unit {0}) → Me (Unit {0}) Hand → ℕ → Me (Unit {0}) Hand → Type 0
claimed step before n after =
    (after ≡ (hand (before.0.drawn ++ n ∷ []) before.0.found before.0.passed (before.0.allowance - 1), before.1)) × All (λ x. x < n) before.0.drawn

-- the operand is appended to what the seat has found
abbrev pub reported : Step (Unit {0}) → Me (Unit {0}) Hand → ℕ → Me (Unit {0}) Hand → Type 0
reported step before word after = after ≡ (with_found step.first before.0, before.1)

-- a look for k found the word: it is at most each number that the seat has found, and where it is below k, the seat passes k over
abbrev pub looked : ℕ → Step (Unit {0}) → Me (Unit {0}) Hand → ℕ → Me (Unit {0}) Hand → Type 0
looked k step before word after =
    (after ≡ (with_passed (nat_lt word k) k before.0, before.1)) × All (λ x. word ≤ x) before.0.found
