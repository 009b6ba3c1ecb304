-- The clauses so far, and those of the steps that are left.
use Rattle.sat_restarts.proofs.Common.{◌≡◌, ◌++◌, map, into_iter_items}
use Rattle.sat_restarts.proofs.bits.push_clauses.Given as goal

abbrev pub invariant-loop-step : goal.invariant-loop-step
invariant-loop-step l = l.clauses ++ map (λ s. s.clause) (into_iter_items l.step-iterator) ≡ l.fn.clauses ++ map (λ s. s.clause) l.fn.steps
