use Rattle.points.proofs.Common.{◌≡◌, length}
use Rattle.points.proofs.Values.{AreLastValuesFrom}
use Rattle.points.proofs.value_steps.next_values.Given as goal

abbrev pub invariant-loop-i : goal.invariant-loop-i
invariant-loop-i l = record {
  same_length : length l.args ≡ length l.parameters;
  unchanged : l.args ≡ l.fn.args;
  last : AreLastValuesFrom l.layout l.parameters l.args l.i;
}
