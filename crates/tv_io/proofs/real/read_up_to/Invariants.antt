use Rattle.std.proofs.Common.{◌≡◌, ◌+◌, length, ◌-◌, ◌≤◌}
use Rattle.tv_io.specs.Count.{RoseBy}
use Rattle.tv_io.proofs.real.read_up_to.Given as goal

abbrev pub invariant-pieces : goal.invariant-pieces
invariant-pieces g l = (l.left ≤ l.most) × (l.initial.bytes_taken ≤ l.bytes_taken) × RoseBy (l.most - l.left) l.initial.bytes_taken l.bytes_taken × (l.bytes_taken + l.left ≤ l.initial.bytes_taken + l.most) × (length l.into.items + l.left ≡ l.most)

abbrev pub decreases-pieces : goal.decreases-pieces
decreases-pieces g l = l.left
