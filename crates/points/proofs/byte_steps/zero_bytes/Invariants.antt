use Rattle.points.proofs.Common.{◌≡◌, length, from_place, zero_byte}
use Rattle.points.proofs.byte_steps.zero_bytes.Given as goal

abbrev pub invariant-loop-i : goal.invariant-loop-i
invariant-loop-i l = record {
  same_length : length l.places ≡ length l.fn.places;
  done : from_place zero_byte l.i l.places ≡ from_place zero_byte l.from l.fn.places;
}
