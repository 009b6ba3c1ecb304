use Rattle.register_slots.proofs.Common.{◌-◌, vec_len}
use Rattle.register_slots.proofs.colouring.Scan.free_until.Given as goal

abbrev pub decreases-loop-self : goal.decreases-loop-self
decreases-loop-self l = vec_len l.self.endings - l.self.ended
