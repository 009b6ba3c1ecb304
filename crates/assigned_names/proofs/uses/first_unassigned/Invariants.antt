use Rattle.std.proofs.Common.{◌<◌, ℕ}
use Rattle.ir_tree.specs.WellFormed.{UsesUnassigned}
use Rattle.assigned_names.proofs.uses.first_unassigned.Given as goal

abbrev pub invariant-loop-n : goal.invariant-loop-n
invariant-loop-n l = (k : ℕ) → k < l.n → UsesUnassigned l.f k → ⊥
