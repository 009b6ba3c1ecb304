use Rattle.points.proofs.Common.{◌≡◌, ◌≤◌, length}
use Rattle.points.proofs.Places.{BytesAreLast}
use Rattle.points.proofs.byte_steps.next_bytes.Given as goal

abbrev pub invariant-loop-i : goal.invariant-loop-i
invariant-loop-i l = record {
  unchanged : l.places ≡ l.fn.places;
  within : l.i ≤ l.size;
  last : BytesAreLast l.layout (length l.fn.places) l.size l.places l.i;
}
