-- What verdicts on the steps of a log, one for each, say.
use Rattle.std.specs.Prelude.{ℕ, ◌≡◌, ◌<◌, List, length, Result, Bool, IfOk, IsTrue, ◌↔◌, slice_index_or}
use Rattle.support.specs.declared.no_memory.NoMemory.{NoMemory}
use Rattle.clause_lits.specs.declared.lit.Lit.{Lit}
use Rattle.clause_log.specs.declared.step.Step.{Step}
use Rattle.clause_log.specs.Refutation.{IsSoundAt}

-- each says whether its step is sound, where memory sufficed for it
pub record AreVerdicts (clauses : List (List Lit)) (log : List Step) (verdicts : List (Result Bool NoMemory)) : Type 0 where
  pub len : length verdicts ≡ length log
  pub each : (i : ℕ) (d : Result Bool NoMemory) → i < length log →
      IfOk (slice_index_or verdicts i d) (λ b. IsTrue b ↔ IsSoundAt clauses log i)
