-- The steps that the last one needs.
use Rattle.std.specs.Prelude.{ℕ, ◌≡◌, ◌<◌, ◌≤◌, ◌+◌, ◌-◌, ◌⊎◌, Bool, true, false, List, Some, length, slice_get, slice_index_or}
use Rattle.clause_log.specs.declared.step.Step.{Step}
use Rattle.clause_log.specs.Members.{Has}

abbrev pub IsMarked : List Bool → ℕ → Type 0
IsMarked used index = slice_index_or used index false ≡ true

-- the steps of a chain are marked, and no others than before
pub record IsMarking (count : ℕ) (chain : List ℕ) (old new : List Bool) : Type 0 where
  pub long : length new ≡ length old
  pub kept : (k : ℕ) → IsMarked old k → IsMarked new k
  pub own : (k : ℕ) → k < length old → Has chain (count + k + 1) → IsMarked new k
  pub only : (k : ℕ) → IsMarked new k → IsMarked old k ⊎ Has chain (count + k + 1)

-- each number in the chain of the step at the index is of a clause before it
abbrev pub IsBelow : ℕ → List Step → ℕ → Type 0
IsBelow count log index = (s : Step) (number : ℕ) → slice_get log index ≡ Some s → Has s.chain number → number ≤ count + index

-- a marked step from `start` on whose chain has the step at the index
pub record IsNeeded (count : ℕ) (log : List Step) (start : ℕ) (used : List Bool) (index : ℕ) : Type 0 where
  pub later : ℕ
  pub step : Step
  pub from : start ≤ later
  pub marked : IsMarked used later
  pub at : slice_get log later ≡ Some step
  pub has : Has step.chain (count + index + 1)

-- the last step is marked, each step in the chain of a marked one from `start` on, and no other
pub record AreMarked (count : ℕ) (log : List Step) (start : ℕ) (used : List Bool) : Type 0 where
  pub long : length used ≡ length log
  pub last : IsMarked used (length log - 1)
  pub closed : (i k : ℕ) (s : Step) → start ≤ i → IsMarked used i → slice_get log i ≡ Some s
      → Has s.chain (count + k + 1) → IsMarked used k
  pub needed : (k : ℕ) → IsMarked used k → (k + 1 ≡ length log) ⊎ IsNeeded count log start used k
