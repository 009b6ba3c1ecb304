use Rattle.std.proofs.Common.{◌≡◌, drop}
use Rattle.points.specs.Refines.{blocks_allow}
use Rattle.pair_trace.proofs.memory.memory_difference.Given as goal

abbrev pub invariant-loop-i : goal.invariant-loop-i
invariant-loop-i l = blocks_allow l.source l.target ≡ blocks_allow (drop l.i l.source) (drop l.i l.target)
