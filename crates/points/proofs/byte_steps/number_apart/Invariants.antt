use Rattle.points.proofs.Common.{◌+◌}
use Rattle.points.proofs.ByteOrder.{AreNotApart}
use Rattle.points.proofs.byte_steps.number_apart.Given as goal

abbrev pub invariant-loop-n : goal.invariant-loop-n
invariant-loop-n l = AreNotApart l.number l.mask (l.n + 1)
