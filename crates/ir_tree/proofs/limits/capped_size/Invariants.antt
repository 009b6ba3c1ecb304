use Rattle.ir_tree.proofs.Common.{◌≡◌, ◌≤◌, length, drop, min, nested_size}
use Rattle.ir_tree.proofs.limits.capped_size.Given as goal

abbrev pub invariant-loop-i : goal.invariant-loop-i
invariant-loop-i l = record {
  lengths : l.lengths ≡ l.of_type.lengths;
  within : l.i ≤ length l.lengths;
  size : l.size ≡ min (nested_size (drop l.i l.lengths) l.of_type.element) 65;
}
