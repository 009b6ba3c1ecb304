use Rattle.points.proofs.Common.{◌≡◌}
use Rattle.points.proofs.Memories.{AreFullFrom}
use Rattle.points.proofs.point_steps.next_sizes.Given as goal

abbrev pub invariant-loop-i : goal.invariant-loop-i
invariant-loop-i l = record {
  unchanged : l.blocks ≡ l.fn.blocks;
  full : AreFullFrom l.layout l.blocks l.i;
}
