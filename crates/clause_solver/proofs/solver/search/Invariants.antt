-- The clauses and steps make the trail, and it rises.
use Rattle.clause_search.specs.Ending.{left_of}
use Rattle.clause_search.specs.Searching.{IsSearch}
use Rattle.clause_solver.proofs.solver.search.Given as goal

abbrev pub invariant-search : goal.invariant-search
invariant-search l = IsSearch l.variables l.clauses l.log l.trail

abbrev pub decreases-search : goal.decreases-search
decreases-search l = left_of l.variables l.trail
