use Rattle.std.proofs.Common.{ℕ, ◌<◌}
use Rattle.clause_log.specs.Refutation.{IsSoundAt}
use Rattle.clause_log.proofs.checking.are_sound.Given as goal

-- the steps so far are sound
abbrev pub invariant-loop-index : goal.invariant-loop-index
invariant-loop-index l = (i : ℕ) → i < l.index → IsSoundAt l.clauses l.log i
