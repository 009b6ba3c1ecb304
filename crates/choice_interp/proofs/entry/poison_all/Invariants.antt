use Rattle.choice_interp.proofs.Common.{◌≡◌, take, replicate, length, Poison}
use Rattle.choice_interp.proofs.entry.poison_all.Given as goal

abbrev pub invariant-loop-i : goal.invariant-loop-i
invariant-loop-i l = record {
  same_length : length l.registers ≡ length l.fn.registers;
  done : take l.i l.registers ≡ replicate l.i Poison;
}
