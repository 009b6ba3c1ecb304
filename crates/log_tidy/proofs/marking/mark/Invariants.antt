-- The steps of the chain so far are marked.
use Rattle.log_tidy.proofs.Common.{take, IsMarking}
use Rattle.log_tidy.proofs.marking.mark.Given as goal

abbrev pub invariant-loop-number : goal.invariant-loop-number
invariant-loop-number l = IsMarking l.count (take l.number-index l.chain) l.fn.used l.used
