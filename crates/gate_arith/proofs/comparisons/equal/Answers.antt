use Rattle.gate_arith.proofs.Common.{IfOk-then, length}
use Rattle.gate_arith.proofs.Testing.{equal-tests}
use Rattle.gate_arith.proofs.comparisons.equal.Goals as goal

pub returns-clause-made : goal.returns-clause-made
returns-clause-made c = IfOk-then c.not.result _ _ c.not.ensures.made (λ id made.
    equal-tests c.args.circuit.now c.xor.new.circuit c.any.new.circuit c.not.new.self c.args.a.now c.args.b.now c.in_ok-apart.apart.items c.in_ok-found.found id (length c.args.a.now)
    c.in_ok-apart.ensures.made (rw c.deref.ensures.value at c.in_ok-found.ensures.made) made)
