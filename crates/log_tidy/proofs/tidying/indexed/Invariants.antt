-- The clauses so far have entries.
use Rattle.log_tidy.proofs.Common.{take, IsIndexed}
use Rattle.log_tidy.proofs.tidying.indexed.Given as goal

abbrev pub invariant-loop-place : goal.invariant-loop-place
invariant-loop-place l = IsIndexed (take l.place l.clauses) l.index
