use Rattle.ir_check.proofs.Common.{◌<◌, ℕ, UsesUnknown}
use Rattle.ir_check.proofs.names.first_unknown.Given as goal

abbrev pub invariant-loop-n : goal.invariant-loop-n
invariant-loop-n l = (k : ℕ) → k < l.n → UsesUnknown l.sites k → ⊥
