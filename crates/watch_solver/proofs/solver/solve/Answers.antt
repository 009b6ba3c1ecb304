-- The variables of a list of clauses are in range by its type.
use Rattle.watch_solver.proofs.Common.{List, sym, subst, Lit, AreInRange}
use Rattle.clause_search.proofs.Ranges.{in_range-within}
use Rattle.watch_solver.proofs.solver.solve.Goals as goal

pub search-requires-clause-in_range : goal.search-requires-clause-in_range
search-requires-clause-in_range c =
    subst (λ (cs : List (List Lit)). AreInRange c.args.cnf.now.variables cs) (sym c.as_slice-clauses.ensures)
    (in_range-within c.args.cnf.now.variables c.args.cnf.now.clauses c.args.cnf.now.clauses_within)
