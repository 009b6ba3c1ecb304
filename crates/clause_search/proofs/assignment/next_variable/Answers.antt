use Rattle.clause_search.proofs.Assigned.{assigned-more}
use Rattle.clause_search.proofs.Deciding.{assigned-none, assigned-decision}
use Rattle.clause_search.proofs.assignment.next_variable.Goals as goal
use Rattle.clause_search.proofs.assignment.next_variable.Goals.{in-Some, in-None}

pub loop-index-init : goal.loop-index-init
loop-index-init c =
    elim c.match-last_decision.branch [
      | in-Some w ↦ rw w.first-is (assigned-decision c.args.variables c.requires.0 c.args.trail.now w.in-Some.place w.get.result c.requires.1 w.in-Some.ensures.at w.get.ensures)
      | in-None w ↦ rw w.first-is (assigned-none c.args.trail.now)
    ]

pub loop-index-preserved : goal.loop-index-preserved
loop-index-preserved c = assigned-more c.args.trail.now c.loop-index.index c.loop-index.invariant (c.is_assigned.ensures.0 c.if-not-is_assigned.false)
