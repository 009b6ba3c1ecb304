use Rattle.memory_access.proofs.Common.{◌≡◌, drop, are_parts}
use Rattle.memory_access.proofs.byte_values.is_whole.Given as goal

abbrev pub invariant-loop-i : goal.invariant-loop-i
invariant-loop-i l = are_parts l.pointer 0 l.bytes ≡ are_parts l.pointer l.i (drop l.i l.bytes)
