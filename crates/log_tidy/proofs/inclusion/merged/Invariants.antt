-- What is left of the two decides.
use Rattle.log_tidy.proofs.Common.{◌≡◌, ◌+◌, length, included}
use Rattle.log_tidy.proofs.inclusion.merged.Given as goal

abbrev pub invariant-loop-left : goal.invariant-loop-left
invariant-loop-left l = included l.left l.right ≡ included l.part l.whole

abbrev pub decreases-loop-left : goal.decreases-loop-left
decreases-loop-left l = length l.left + length l.right
