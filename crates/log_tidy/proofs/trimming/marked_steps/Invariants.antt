-- The marked ones among the steps so far are kept.
use Rattle.log_tidy.proofs.Common.{AreKept}
use Rattle.log_tidy.proofs.trimming.marked_steps.Given as goal

abbrev pub invariant-loop-index : goal.invariant-loop-index
invariant-loop-index l = AreKept l.clauses l.log l.used l.index l.numbers.items l.kept
