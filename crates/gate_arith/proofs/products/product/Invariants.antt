use Rattle.gate_arith.proofs.Rows.{IsPartProduct}
use Rattle.gate_arith.proofs.products.product.Given as goal

abbrev pub invariant-loop-place : goal.invariant-loop-place
invariant-loop-place l = IsPartProduct l.fn.circuit l.circuit l.fn.a l.fn.b l.total.items l.row.items l.zeros.items l.place
