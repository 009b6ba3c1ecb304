use Rattle.gate_arith.proofs.Steps.{IsPartDivision}
use Rattle.gate_arith.proofs.quotients.divided.Given as goal

abbrev pub invariant-loop-i : goal.invariant-loop-i
invariant-loop-i l = IsPartDivision l.fn.circuit l.circuit l.fn.a l.fn.b l.left.items l.digits.items l.i
