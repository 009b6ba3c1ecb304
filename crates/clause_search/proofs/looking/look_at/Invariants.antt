-- What is known of the literals so far.
use Rattle.clause_search.proofs.Common.{drop, IsSeen}
use Rattle.clause_search.proofs.looking.look_at.Given as goal

abbrev pub invariant-loop-literal : goal.invariant-loop-literal
invariant-loop-literal l = IsSeen l.trail l.clause (drop l.literal-index l.literal-items) l.free
