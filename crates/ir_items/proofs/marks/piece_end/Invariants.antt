use Rattle.ir_items.proofs.Common.{◌≡◌, Some, marks, IsInside}
use Rattle.ir_items.proofs.marks.piece_end.Given as goal

abbrev pub invariant-loop-place : goal.invariant-loop-place
invariant-loop-place l = record {
  here : marks l.tokens l.from l.place ≡ Some l.open.items;
  inside : IsInside l.tokens l.from l.place;
}
