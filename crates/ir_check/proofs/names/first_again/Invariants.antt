use Rattle.ir_check.proofs.Common.{◌<◌, ℕ, DefinesAgain}
use Rattle.ir_check.proofs.names.first_again.Given as goal

abbrev pub invariant-loop-n : goal.invariant-loop-n
invariant-loop-n l = (k : ℕ) → k < l.n → DefinesAgain l.sites k → ⊥
