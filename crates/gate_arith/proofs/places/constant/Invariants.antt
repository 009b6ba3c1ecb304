use Rattle.gate_arith.proofs.Known.{IsPartConstant}
use Rattle.gate_arith.proofs.places.constant.Given as goal

abbrev pub invariant-loop-place : goal.invariant-loop-place
invariant-loop-place l = IsPartConstant l.fn.circuit l.circuit l.fn.value l.fn.width l.digits.items l.place
