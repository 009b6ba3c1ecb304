-- What a log without its unmarked steps is.
use Rattle.std.specs.Prelude.{ℕ, ◌≡◌, ◌<◌, ◌≤◌, ◌+◌, Bool, List, Some, length, map, slice_get, take}
use Rattle.clause_lits.specs.declared.lit.Lit.{Lit}
use Rattle.clause_log.specs.declared.step.Step.{Step}
use Rattle.clause_log.specs.Members.{Has}
use Rattle.clause_log.specs.Refutation.{IsSoundAt, Refutes}
use Rattle.clause_search.specs.Outcome.{IsCareful}
use Rattle.log_tidy.specs.Marks.{IsMarked}
use Rattle.log_tidy.specs.Numbers.{renumbered_step}
use Rattle.log_tidy.specs.Used.{AreUsed}

-- a refutation of only used steps, no longer than the log, and careful where that is
pub record IsTrimmed (clauses : List (List Lit)) (log kept : List Step) : Type 0 where
  pub refutes : Refutes clauses kept
  pub careful : IsCareful clauses log → IsCareful clauses kept
  pub used : AreUsed clauses kept
  pub shorter : length kept ≤ length log

-- the step at the index is among the kept ones, by its new number
pub record IsMoved (count : ℕ) (numbers : List ℕ) (kept : List Step) (index : ℕ) (s : Step) : Type 0 where
  pub place : ℕ
  pub number : slice_get numbers index ≡ Some (count + place + 1)
  pub at : slice_get kept place ≡ Some (renumbered_step count numbers s)

-- the kept step at `place` is the marked one at the index
abbrev pub IsFrom : ℕ → List Bool → List ℕ → ℕ → ℕ → Type 0
IsFrom count used numbers place index =
    (index < length numbers) × IsMarked used index × (slice_get numbers index ≡ Some (count + place + 1))

-- the marked ones among the first steps are kept, the table has their new numbers, and the last number is the greatest
pub record AreKept (clauses : List (List Lit)) (log : List Step) (used : List Bool) (index : ℕ)
    (numbers : List ℕ) (kept : List Step) : Type 0 where
  pub long : length numbers ≡ index
  pub newest : (k : ℕ) → k + 1 ≡ index → slice_get numbers k ≡ Some (length clauses + length kept)
  pub shorter : length kept ≤ index
  pub sound : (j : ℕ) → j < length kept → IsSoundAt clauses kept j
  pub part : (c : List Lit) → Has (map (λ s. s.clause) kept) c → Has (map (λ s. s.clause) (take index log)) c
  pub careful : IsCareful clauses log → IsCareful clauses kept
  pub moved : (k : ℕ) (s : Step) → k < index → IsMarked used k → slice_get log k ≡ Some s
      → IsMoved (length clauses) numbers kept k s
  pub from : (j : ℕ) → j < length kept → (k : ℕ) × IsFrom (length clauses) used numbers j k
