use Rattle.ir_items.proofs.Common.{◌≡◌, ◌≤◌, [], drop, slice_range, has_bad_part}
use Rattle.ir_items.proofs.layout.some_bad_part.Given as goal

abbrev pub invariant-loop-place : goal.invariant-loop-place
invariant-loop-place l = record {
  within : l.start ≤ l.place;
  same : has_bad_part (slice_range l.text l.start l.place) (drop l.place l.text) ≡ has_bad_part [] l.text;
}
