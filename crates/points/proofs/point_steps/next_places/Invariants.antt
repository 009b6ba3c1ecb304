use Rattle.points.proofs.Common.{◌≡◌}
use Rattle.points.proofs.Memories.{PlacesAreLast}
use Rattle.points.proofs.point_steps.next_places.Given as goal

abbrev pub invariant-loop-i : goal.invariant-loop-i
invariant-loop-i l = record {
  unchanged : l.blocks ≡ l.fn.blocks;
  last : PlacesAreLast l.layout l.fn.blocks l.blocks l.i;
}
