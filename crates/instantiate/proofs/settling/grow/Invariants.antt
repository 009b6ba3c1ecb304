-- The trail may go on.
use Rattle.std.proofs.Common.{◌-◌, length}
use Rattle.instantiate.specs.Rounds.{IsTrail}
use Rattle.instantiate.proofs.settling.grow.Given as goal

abbrev pub invariant-loop-trail : goal.invariant-loop-trail
invariant-loop-trail l = IsTrail l.subject l.budget l.trail

abbrev pub decreases-loop-trail : goal.decreases-loop-trail
decreases-loop-trail l = l.budget.rounds - length l.trail.question.tapes
