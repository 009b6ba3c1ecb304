use Rattle.std.proofs.Common.{◌≡◌, ◌<◌, ◌≤◌, ◌^◌, length, drop}
use Rattle.lowering.specs.Lowered.{longest}
use Rattle.lowering.proofs.stack_names.longest.Given as goal

abbrev pub invariant-loop-at : goal.invariant-loop-at
invariant-loop-at l = record {
  within : l.at ≤ length l.names;
  longest : l.longest ≡ longest (drop l.at l.names);
  most : l.longest < 2 ^ 63;
}
