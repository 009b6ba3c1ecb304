use Rattle.register_slots.proofs.Common.{◌+◌, vec_len}
use Rattle.register_slots.proofs.liveness.follow.Given as goal

abbrev pub decreases-loop-block : goal.decreases-loop-block
decreases-loop-block l = l.work.left + vec_len l.work.waiting
