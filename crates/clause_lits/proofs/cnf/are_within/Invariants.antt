-- The clauses so far are within.
use Rattle.std.proofs.Common.{ℕ, ◌<◌, ◌≤◌, get_or, List, All}
use Rattle.clause_lits.specs.declared.lit.Lit.{Lit}
use Rattle.clause_lits.proofs.cnf.are_within.Given as goal

abbrev pub invariant-loop-clause : goal.invariant-loop-clause
invariant-loop-clause l = (k : ℕ) (d : List Lit) → k < l.clause-index → All (λ x. (0 < x.variable) × (x.variable ≤ l.variables)) (get_or l.clauses k d)
