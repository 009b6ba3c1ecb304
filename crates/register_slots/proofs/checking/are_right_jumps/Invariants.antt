use Rattle.register_slots.proofs.Common.{AllByRecursion, ℕ, drop, block_of, IsRightJump}
use Rattle.register_slots.proofs.checking.are_right_jumps.Given as goal

abbrev pub invariant-loop-label : goal.invariant-loop-label
invariant-loop-label l =
    AllByRecursion (λ (label : ℕ). IsRightJump l.f l.slots l.lives l.held l.block.label (block_of l.f label)) (drop l.label-index l.labels)
    → AllByRecursion (λ (label : ℕ). IsRightJump l.f l.slots l.lives l.held l.block.label (block_of l.f label)) l.labels
