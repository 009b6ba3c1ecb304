use Rattle.clause_search.proofs.Common.{standing}
use Rattle.clause_search.proofs.Root.{IsDown}
use Rattle.clause_search.proofs.refuting.refute.Given as goal

abbrev pub invariant-back : goal.invariant-back
invariant-back l = IsDown (standing l.clauses l.log) l.trail l.chain l.clause l.place

abbrev pub decreases-back : goal.decreases-back
decreases-back l = l.place
