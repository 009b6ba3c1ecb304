use Rattle.points.proofs.Common.{◌≡◌, length, least_from}
use Rattle.points.proofs.value_steps.least_from.Given as goal

abbrev pub invariant-loop-i : goal.invariant-loop-i
invariant-loop-i l = record {
  same_length : length l.args ≡ length l.parameters;
  done : least_from l.parameters l.i l.args ≡ least_from l.parameters l.from l.fn.args;
}
