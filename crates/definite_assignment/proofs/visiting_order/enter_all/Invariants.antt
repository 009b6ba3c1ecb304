use Rattle.definite_assignment.proofs.Common.{ℕ, ◌+◌, ◌≡◌, ◌<◌, length, All, block_of}
use Rattle.definite_assignment.proofs.visiting_order.enter_all.Given as goal

abbrev pub invariant-loop-block : goal.invariant-loop-block
invariant-loop-block l =
    record {
      long : length l.steps.items ≡ length l.fn.steps.items + l.block-index;
      within : (most : ℕ) → All (λ step. block_of step < most) l.fn.steps.items → All (λ block. block < most) l.blocks → All (λ step. block_of step < most) l.steps.items;
    }
