-- What the chain so far became.
use Rattle.log_tidy.proofs.Common.{standing}
use Rattle.log_tidy.proofs.Links.{IsAnew}
use Rattle.log_tidy.proofs.linking.resolved_anew.Given as goal

abbrev pub invariant-loop-number : goal.invariant-loop-number
invariant-loop-number l =
    IsAnew (standing l.clauses l.earlier) (standing l.clauses l.kept) l.step.clause l.rest l.number-index l.whole l.current
