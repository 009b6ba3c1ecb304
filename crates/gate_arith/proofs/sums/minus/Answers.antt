use Rattle.gate_arith.proofs.Common.{IfOk-then}
use Rattle.gate_arith.proofs.Adders.{sum-minus}
use Rattle.gate_arith.proofs.sums.minus.Goals as goal

pub returns-clause-made : goal.returns-clause-made
returns-clause-made c = IfOk-then c.sum_with_carry.result _ _ c.sum_with_carry.ensures.sum (λ r sum.
    sum-minus c.args.circuit.now c.inverse.new.circuit c.constant.new.self c.sum_with_carry.new.circuit c.args.a.now c.args.b.now c.in_ok-turned.turned.items c.in_ok-one.one r.digits.items r.carry
    c.requires.alike c.in_ok-turned.ensures.kept c.in_ok-one.ensures.kept c.requires.a c.in_ok-turned.ensures.made c.in_ok-one.ensures.made (rw c.deref.ensures.value at sum))
