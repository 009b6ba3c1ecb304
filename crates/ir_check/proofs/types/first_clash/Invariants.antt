use Rattle.ir_check.proofs.Common.{◌<◌, ℕ, ClashesType}
use Rattle.ir_check.proofs.types.first_clash.Given as goal

abbrev pub invariant-loop-n : goal.invariant-loop-n
invariant-loop-n l = (k : ℕ) → k < l.n → ClashesType l.sites k → ⊥
