use Rattle.std.proofs.Common.{◌≡◌, take}
use Rattle.lowering.proofs.stack_names.copy_names.Given as goal

abbrev pub invariant-loop-at : goal.invariant-loop-at
invariant-loop-at l = l.copy ≡ take l.at l.names
