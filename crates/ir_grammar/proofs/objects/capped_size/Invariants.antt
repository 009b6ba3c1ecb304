use Rattle.ir_grammar.proofs.Common.{◌≡◌, ◌≤◌, length, drop, min, nested_size}
use Rattle.ir_grammar.proofs.objects.capped_size.Given as goal

abbrev pub invariant-loop-i : goal.invariant-loop-i
invariant-loop-i l = record {
  within : l.i ≤ length l.lengths;
  size : l.size ≡ min (nested_size (drop l.i l.lengths) l.fn.element) 65;
}
