-- What the steps from an index on need is marked.
use Rattle.log_tidy.proofs.Common.{AreMarked}
use Rattle.log_tidy.proofs.marking.marks.Given as goal

abbrev pub invariant-loop-index : goal.invariant-loop-index
invariant-loop-index l = AreMarked l.count l.log l.index l.used
