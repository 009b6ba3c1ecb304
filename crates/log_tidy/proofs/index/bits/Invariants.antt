-- The bits are those of the literals so far.
use Rattle.log_tidy.proofs.Common.{◌≡◌, take, bits}
use Rattle.log_tidy.proofs.index.bits.Given as goal

abbrev pub invariant-loop-literal : goal.invariant-loop-literal
invariant-loop-literal l = l.bits ≡ bits l.half (take l.literal-index l.clause)
