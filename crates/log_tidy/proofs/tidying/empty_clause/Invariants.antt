-- None of the clauses so far is empty.
use Rattle.log_tidy.proofs.Common.{[], take, Has}
use Rattle.log_tidy.proofs.tidying.empty_clause.Given as goal

abbrev pub invariant-loop-index : goal.invariant-loop-index
invariant-loop-index l = Has (take l.index l.clauses) [] → ⊥
