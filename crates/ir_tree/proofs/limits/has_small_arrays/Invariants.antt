use Rattle.ir_tree.proofs.Common.{◌≡◌, ◌≤◌, length, drop, nested_size, HasSmallArrays}
use Rattle.ir_tree.proofs.limits.has_small_arrays.Given as goal

abbrev pub invariant-loop-i : goal.invariant-loop-i
invariant-loop-i l = record {
  lengths : l.lengths ≡ l.of_type.lengths;
  within : l.i ≤ length l.lengths;
  size : l.size ≡ nested_size (drop l.i l.lengths) l.of_type.element;
  small : HasSmallArrays (drop l.i l.lengths) l.of_type.element;
}
