-- At the decision so far the clause is unit.
use Rattle.clause_search.proofs.Common.{◌≤◌, take, FalseBut, IsDecisionAt}
use Rattle.clause_search.proofs.learning.jump.Given as goal

abbrev pub invariant-down : goal.invariant-down
invariant-down l = (l.place ≤ l.low) × IsDecisionAt l.trail l.place × FalseBut (take l.place l.trail) l.clause l.fn.literal

abbrev pub decreases-down : goal.decreases-down
decreases-down l = l.place
