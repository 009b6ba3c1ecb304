use Rattle.ir_grammar.proofs.Common.{◌≡◌, ◌≤◌, length, drop, nested_size, HasSmallArrays}
use Rattle.ir_grammar.proofs.objects.are_small_arrays.Given as goal

abbrev pub invariant-loop-i : goal.invariant-loop-i
invariant-loop-i l = record {
  within : l.i ≤ length l.lengths;
  size : l.size ≡ nested_size (drop l.i l.lengths) l.fn.element;
  small : HasSmallArrays (drop l.i l.lengths) l.fn.element;
}
