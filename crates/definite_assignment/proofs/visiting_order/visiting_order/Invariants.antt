use Rattle.definite_assignment.proofs.Common.{ℕ, ◌<◌, length, All, Contains}
use Rattle.definite_assignment.proofs.visiting_order.visiting_order.Given as goal

abbrev pub invariant-loop-block : goal.invariant-loop-block
invariant-loop-block l =
    record {
      within : All (λ block. block < length l.successors) l.order.items;
      every : (block : ℕ) → block < l.block → Contains l.order.items block;
    }
