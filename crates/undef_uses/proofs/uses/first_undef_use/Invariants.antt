use Rattle.std.proofs.Common.{◌<◌, ℕ}
use Rattle.ir_tree.specs.Carrying.{UsesUndef}
use Rattle.undef_uses.proofs.uses.first_undef_use.Given as goal

abbrev pub invariant-loop-n : goal.invariant-loop-n
invariant-loop-n l = (k : ℕ) → k < l.n → UsesUndef l.f k → ⊥
