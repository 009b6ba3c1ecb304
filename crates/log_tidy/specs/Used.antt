-- Which steps of a log are needed.
use Rattle.std.specs.Prelude.{ℕ, ◌≡◌, ◌<◌, ◌+◌, List, Some, length, slice_get}
use Rattle.clause_lits.specs.declared.lit.Lit.{Lit}
use Rattle.clause_log.specs.declared.step.Step.{Step}
use Rattle.clause_log.specs.Members.{Has}

-- a later step than the one at the index is resolved from it
pub record IsUsed (clauses : List (List Lit)) (log : List Step) (index : ℕ) : Type 0 where
  pub later : ℕ
  pub step : Step
  pub after : index < later
  pub at : slice_get log later ≡ Some step
  pub has : Has step.chain (length clauses + index + 1)

-- each step but the last is used by a later one
abbrev pub AreUsed : List (List Lit) → List Step → Type 0
AreUsed clauses log = (index : ℕ) → index + 1 < length log → IsUsed clauses log index
