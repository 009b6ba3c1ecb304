use Rattle.gate_arith.proofs.Testing.{IsPartAny}
use Rattle.gate_arith.proofs.comparisons.any.Given as goal

abbrev pub invariant-loop-i : goal.invariant-loop-i
invariant-loop-i l = IsPartAny l.fn.circuit l.circuit l.fn.a l.found l.i
