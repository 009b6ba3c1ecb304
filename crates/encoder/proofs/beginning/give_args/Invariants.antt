-- What is left of the arguments takes the registers so far to those with all.
use Rattle.encoder.proofs.Common.{◌≡◌, length, with_args, Keeps, AreSymValues, IsNaming, Reading, values_at, AreArgs, args_at}
use Rattle.encoder.proofs.beginning.give_args.Given as goal

abbrev pub invariant-loop-parameters : goal.invariant-loop-parameters
invariant-loop-parameters l = record {
  kept : Keeps l.fn.terms l.terms;
  made : AreSymValues l.terms l.registers;
  count : length l.registers ≡ length l.fn.registers;
  fit : AreArgs l.terms l.parameters l.args;
  given : (r : Reading) → IsNaming r.name → with_args l.parameters (args_at r l.terms l.args) (values_at r l.terms l.registers) ≡ with_args l.fn.parameters (args_at r l.fn.terms l.fn.args) (values_at r l.fn.terms l.fn.registers);
}

abbrev pub decreases-loop-parameters : goal.decreases-loop-parameters
decreases-loop-parameters l = length l.parameters
