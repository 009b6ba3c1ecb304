use Rattle.ir_numbering.proofs.Common.{◌≡◌, length, is_greater}
use Rattle.ir_numbering.proofs.entry_name.is_greater.Given as goal

abbrev pub invariant-loop-left : goal.invariant-loop-left
invariant-loop-left l = is_greater l.left l.right ≡ is_greater l.a l.b

abbrev pub decreases-loop-left : goal.decreases-loop-left
decreases-loop-left l = length l.left
