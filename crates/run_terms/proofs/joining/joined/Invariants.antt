-- The blocks so far are the first ones and those that came.
use Rattle.run_terms.proofs.Common.{◌≡◌, ◌++◌}
use Rattle.run_terms.proofs.joining.joined.Given as goal

abbrev pub invariant-loop-block : goal.invariant-loop-block
invariant-loop-block l = l.blocks ≡ l.fn.first ++ l.yielded
