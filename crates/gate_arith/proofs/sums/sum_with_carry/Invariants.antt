use Rattle.gate_arith.proofs.Adders.{IsPartSum}
use Rattle.gate_arith.proofs.sums.sum_with_carry.Given as goal

abbrev pub invariant-loop-place : goal.invariant-loop-place
invariant-loop-place l = IsPartSum l.fn.circuit l.circuit l.fn.a l.fn.b l.fn.carry l.digits.items l.passed l.place
