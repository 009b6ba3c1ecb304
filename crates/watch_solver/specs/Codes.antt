-- A literal as a number: twice its variable, and 1 more where it is positive.
use Rattle.std.specs.Prelude.{ℕ, ◌+◌, ◌*◌, ◌/◌, ◌%◌, cond, nat_eq}
use Rattle.clause_lits.specs.declared.lit.Lit.{Lit}
use Rattle.watch_solver.specs.declared.code.Code.{Code}

unfoldable pub index_of : Lit → ℕ
index_of l = 2 * l.variable + cond l.positive 1 0

-- the literal of a code
unfoldable pub lit_of : Code → Lit
lit_of c = record { variable = c.number / 2; positive = nat_eq (c.number % 2) 1 }
