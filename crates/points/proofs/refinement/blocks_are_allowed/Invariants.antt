use Rattle.points.proofs.Common.{◌≡◌, drop, blocks_allow}
use Rattle.points.proofs.refinement.blocks_are_allowed.Given as goal

abbrev pub invariant-loop-i : goal.invariant-loop-i
invariant-loop-i l = blocks_allow l.source l.target ≡ blocks_allow (drop l.i l.source) (drop l.i l.target)
