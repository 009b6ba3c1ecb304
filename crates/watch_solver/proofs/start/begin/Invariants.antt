-- The clauses so far were looked at.
use Rattle.watch_solver.proofs.Common.{IsStarted}
use Rattle.watch_solver.proofs.start.begin.Given as goal

abbrev pub invariant-loop-index : goal.invariant-loop-index
invariant-loop-index l = IsStarted l.variables l.clauses l.index l.watches.pairs.items l.watches.lists.items l.trail
