-- The literals so far are within.
use Rattle.std.proofs.Common.{ℕ, ◌<◌, ◌≤◌, get_or}
use Rattle.clause_lits.specs.declared.lit.Lit.{Lit}
use Rattle.clause_lits.proofs.cnf.is_within.Given as goal

abbrev pub invariant-loop-literal : goal.invariant-loop-literal
invariant-loop-literal l = (k : ℕ) (d : Lit) → k < l.literal-index → (0 < (get_or l.literals k d).variable) × ((get_or l.literals k d).variable ≤ l.variables)
