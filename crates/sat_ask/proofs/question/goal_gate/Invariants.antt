-- The terms so far that the goal is made of have their bits.
use Rattle.sat_ask.proofs.Common.{◌≡◌}
use Rattle.sat_ask.proofs.Building.{IsBuilt}
use Rattle.sat_ask.proofs.question.goal_gate.Given as goal

abbrev pub invariant-loop-place : goal.invariant-loop-place
invariant-loop-place l = IsBuilt l.fn.terms l.used.items l.blast l.bits.items l.place × (l.blast.table ≡ l.fn.blast.table)
