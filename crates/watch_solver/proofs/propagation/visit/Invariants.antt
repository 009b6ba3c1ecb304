-- The clauses of the watches before the index are kept by one more entry.
use Rattle.watch_solver.proofs.Common.{◌≤◌, ◌-◌, length, left_of, lit_of, list_of, IsWalk}
use Rattle.watch_solver.proofs.propagation.visit.Given as goal

abbrev pub invariant-walk : goal.invariant-walk
invariant-walk l = record {
  walk : IsWalk l.variables l.clauses l.log l.watches.pairs.items l.watches.lists.items l.trail l.done (lit_of l.falsified) l.place;
  left : left_of l.variables l.trail ≤ left_of l.variables l.fn.trail;
}

abbrev pub decreases-walk : goal.decreases-walk
decreases-walk l = length (list_of l.watches.lists.items (lit_of l.falsified)) - l.place
