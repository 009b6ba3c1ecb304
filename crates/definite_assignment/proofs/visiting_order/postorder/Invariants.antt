use Rattle.definite_assignment.proofs.Common.{◌+◌, ◌≡◌, ◌<◌, length, All, block_of, steps_left}
use Rattle.definite_assignment.proofs.visiting_order.postorder.Given as goal

abbrev pub invariant-loop-step : goal.invariant-loop-step
invariant-loop-step l =
    record {
      marks : length l.is_entered.items ≡ length l.successors;
      steps : All (λ step. block_of step < length l.successors) l.steps.items;
      order : All (λ block. block < length l.successors) l.order.items;
    }

abbrev pub decreases-loop-step : goal.decreases-loop-step
decreases-loop-step l = steps_left l.is_entered.items l.successors + length l.steps.items
