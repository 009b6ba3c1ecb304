use Rattle.choice_interp.proofs.Common.{◌≡◌, length, with_args}
use Rattle.choice_interp.proofs.entry.give_args.Given as goal

abbrev pub invariant-loop-parameters : goal.invariant-loop-parameters
invariant-loop-parameters l = record {
  rest : with_args l.parameters l.args l.registers ≡ with_args l.fn.parameters l.fn.args l.fn.registers;
  count : length l.registers ≡ length l.fn.registers;
}

abbrev pub decreases-loop-parameters : goal.decreases-loop-parameters
decreases-loop-parameters l = length l.parameters
