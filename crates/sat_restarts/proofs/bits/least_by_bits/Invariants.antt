-- The bits so far are settled.
use Rattle.sat_restarts.proofs.Common.{IsSettled}
use Rattle.sat_restarts.proofs.bits.least_by_bits.Given as goal

abbrev pub invariant-loop-bit : goal.invariant-loop-bit
invariant-loop-bit l = IsSettled l.cnf l.bit l.settled.cnf l.settled.values
