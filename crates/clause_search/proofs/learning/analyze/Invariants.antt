-- On the way back.
use Rattle.clause_search.proofs.Common.{standing, IsMarkedBack}
use Rattle.clause_search.proofs.learning.analyze.Given as goal

abbrev pub invariant-back : goal.invariant-back
invariant-back l = IsMarkedBack (standing l.clauses l.log) l.trail l.low l.chain l.marks l.place

abbrev pub decreases-back : goal.decreases-back
decreases-back l = l.place
