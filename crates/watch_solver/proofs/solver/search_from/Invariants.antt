-- The search holds, its watches go with it, and each clause is kept by the entries that were looked at.
use Rattle.watch_solver.proofs.Common.{take, left_of, IsSearch, standing, AreKept, IsWatched}
use Rattle.watch_solver.proofs.solver.search_from.Given as goal

abbrev pub invariant-search : goal.invariant-search
invariant-search l = record {
  search : IsSearch l.variables l.clauses l.log l.trail;
  watched : IsWatched l.variables (standing l.clauses l.log) l.watches.pairs.items l.watches.lists.items l.trail;
  kept : AreKept (standing l.clauses l.log) l.watches.pairs.items (take l.done l.trail) l.trail;
}

abbrev pub decreases-search : goal.decreases-search
decreases-search l = left_of l.variables l.trail
