-- All clauses are kept by the entries before the next one.
use Rattle.watch_solver.proofs.Common.{◌≤◌, ◌+◌, ◌-◌, take, left_of, IsSearch, standing, AreKept, IsWatched}
use Rattle.watch_solver.proofs.propagation.propagate.Given as goal

abbrev pub invariant-queue : goal.invariant-queue
invariant-queue l = record {
  search : IsSearch l.variables l.clauses l.log l.trail;
  watched : IsWatched l.variables (standing l.clauses l.log) l.watches.pairs.items l.watches.lists.items l.trail;
  kept : AreKept (standing l.clauses l.log) l.watches.pairs.items (take l.next l.trail) l.trail;
  left : left_of l.variables l.trail ≤ left_of l.variables l.fn.trail;
}

abbrev pub decreases-queue : goal.decreases-queue
decreases-queue l = (l.variables + 2) - l.next
