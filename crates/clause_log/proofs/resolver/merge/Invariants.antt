-- What is written and what is left of the two clauses make up the whole.
use Rattle.clause_log.proofs.Common.{◌≡◌, ◌+◌, ◌++◌, cond, length, joined, clashes}
use Rattle.clause_log.proofs.resolver.merge.Given as goal

abbrev pub invariant-loop-left : goal.invariant-loop-left
invariant-loop-left l =
    (l.out.items ++ joined l.left l.right ≡ joined l.a l.b)
    × (cond l.clashed 1 0 + clashes l.left l.right ≡ clashes l.a l.b)

abbrev pub decreases-loop-left : goal.decreases-loop-left
decreases-loop-left l = length l.left + length l.right
