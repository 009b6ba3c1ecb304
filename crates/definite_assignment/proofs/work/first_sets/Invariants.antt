use Rattle.definite_assignment.proofs.Common.{◌≡◌, ◌-◌, first_sets}
use Rattle.definite_assignment.proofs.work.first_sets.Given as goal

abbrev pub invariant-loop-block : goal.invariant-loop-block
invariant-loop-block l = l.sets ≡ first_sets (l._block - 1) l.names
