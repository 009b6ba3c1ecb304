use Rattle.gate_arith.proofs.Moved.{IsPartMoved}
use Rattle.gate_arith.proofs.shifts.staged.Given as goal

abbrev pub invariant-loop-place : goal.invariant-loop-place
invariant-loop-place l = IsPartMoved l.fn.circuit l.circuit l.fn.direction l.fn.a l.fn.amount l.value.items l.count l.place
