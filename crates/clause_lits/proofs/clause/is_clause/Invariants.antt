-- What is left rises from the last variable exactly where all rise from 0.
use Rattle.std.proofs.Common.{◌↔◌, drop}
use Rattle.clause_lits.specs.Meaning.{RisesFrom}
use Rattle.clause_lits.proofs.clause.is_clause.Given as goal

abbrev pub invariant-loop-literal : goal.invariant-loop-literal
invariant-loop-literal l = RisesFrom 0 l.literals ↔ RisesFrom l.below (drop l.literal-index l.literals)
