use Rattle.memory_access.proofs.Common.{◌≡◌, ◌≤◌, ◌<◌, ◌-◌, ◌^◌, length, drop, Some, number_of_bytes}
use Rattle.memory_access.proofs.byte_values.number_in.Given as goal

abbrev pub invariant-loop-i : goal.invariant-loop-i
invariant-loop-i l = record {
  within : l.i ≤ length l.bytes;
  number : number_of_bytes (drop l.i l.bytes) ≡ Some l.number;
  small : l.number < 256 ^ (length l.bytes - l.i);
}
