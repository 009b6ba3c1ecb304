use Rattle.gate_arith.proofs.Common.{◌≡◌}
use Rattle.gate_arith.proofs.Zips.{IsPartInverse}
use Rattle.gate_arith.proofs.bitwise.inverse.Given as goal

abbrev pub invariant-loop-i : goal.invariant-loop-i
invariant-loop-i l = record {
  same : l.circuit ≡ l.fn.circuit;
  part : IsPartInverse l.fn.circuit l.fn.a l.digits.items l.i;
}
