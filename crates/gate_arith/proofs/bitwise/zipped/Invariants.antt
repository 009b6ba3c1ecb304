use Rattle.gate_arith.proofs.Zips.{IsPartZip}
use Rattle.gate_arith.proofs.bitwise.zipped.Given as goal

abbrev pub invariant-loop-i : goal.invariant-loop-i
invariant-loop-i l = IsPartZip l.fn.circuit l.circuit l.fn.op l.fn.a l.fn.b l.digits.items l.i
