-- What is resolved from clauses has no other variables.
use Rattle.sat_restarts.proofs.Common.{List, subst, sym, Lit, AreWithin, standing}
use Rattle.clause_search.proofs.Ranges.{in_range-within}
use Rattle.sat_restarts.proofs.Ranges.{standing-range, within-in_range}
use Rattle.sat_restarts.proofs.bits.with_log.Goals as goal

pub new-requires-clause-within : goal.new-requires-clause-within
new-requires-clause-within c =
    let cnf = c.args.cnf in
    subst (λ (cs : List (List Lit)). AreWithin cnf.variables cs) (sym c.in_ok-push_clauses.ensures)
    (within-in_range cnf.variables (standing cnf.clauses c.args.learned)
    (standing-range cnf.variables cnf.clauses c.args.learned (in_range-within cnf.variables cnf.clauses cnf.clauses_within) c.requires))
