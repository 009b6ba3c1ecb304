use Rattle.gate_arith.proofs.Known.{ArePartFresh}
use Rattle.gate_arith.proofs.places.some_inputs.Given as goal

abbrev pub invariant-loop-i : goal.invariant-loop-i
invariant-loop-i l = ArePartFresh l.fn.circuit l.circuit l.i l.digits.items
