use Rattle.definite_assignment.proofs.Common.{◌≡◌, ◌<◌, ◌≤◌, true, false, length, take, All, IsSearch, is_waiting, rest_of, state_of}
use Rattle.definite_assignment.proofs.work.Work.pass.Given as goal

abbrev pub invariant-loop-block : goal.invariant-loop-block
invariant-loop-block l =
    record {
      search : IsSearch l.successors l.assigns (length l.leaving) (state_of l.self);
      room : length l.leaving ≡ length l.fn.leaving;
      most : rest_of (state_of l.self) ≤ rest_of (state_of l.fn.self);
      rest : l.visited ≡ true → rest_of (state_of l.self) < rest_of (state_of l.fn.self);
      quiet : l.visited ≡ false → All (λ block. is_waiting (state_of l.self) block ≡ false) (take l.block-index l.order);
    }
