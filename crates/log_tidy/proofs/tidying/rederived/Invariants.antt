-- The steps so far have clauses within theirs.
use Rattle.log_tidy.proofs.Common.{AreTidied}
use Rattle.log_tidy.proofs.tidying.rederived.Given as goal

abbrev pub invariant-loop-place : goal.invariant-loop-place
invariant-loop-place l = AreTidied l.clauses l.log l.place l.numbers.items l.kept l.index
