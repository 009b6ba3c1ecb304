-- It is a literal of the clause.
use Rattle.log_tidy.proofs.Common.{Has}
use Rattle.log_tidy.proofs.index.Index.rarest.Given as goal

abbrev pub invariant-loop-literal : goal.invariant-loop-literal
invariant-loop-literal l = Has l.clause l.rarest
