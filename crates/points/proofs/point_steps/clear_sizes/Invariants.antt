use Rattle.points.proofs.Common.{◌≡◌, length, from_place, zero_size}
use Rattle.points.proofs.point_steps.clear_sizes.Given as goal

abbrev pub invariant-loop-i : goal.invariant-loop-i
invariant-loop-i l = record {
  same_length : length l.blocks ≡ length l.fn.blocks;
  done : from_place zero_size l.i l.blocks ≡ from_place zero_size l.from l.fn.blocks;
}
