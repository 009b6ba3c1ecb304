use Rattle.gate_arith.proofs.Common.{false, GateId}
use Rattle.gate_arith.proofs.Moved.{signed-writes}
use Rattle.gate_arith.proofs.shifts.shift_right_signed.Goals as goal

pub returns-clause-made : goal.returns-clause-made
returns-clause-made c =
    let d : GateId = record { index = 0; negated = false } in
    signed-writes c.args.circuit.now c.inverse.new.circuit c.shift_right.new.circuit c.inverse-2.new.circuit c.shift_right-2.new.circuit c.choose.new.circuit c.args.a.now c.args.b.now
    c.in_ok-turned.turned.items c.in_ok-turned_down.turned_down.items c.in_ok-negative.negative.items c.in_ok-positive.positive.items c.in_ok-digits.digits.items d c.requires.a c.requires.b c.requires.least
    c.in_ok-turned.ensures.kept c.in_ok-turned.ensures.made c.in_ok-turned_down.ensures.kept (rw c.deref.ensures.value at c.in_ok-turned_down.ensures.made)
    c.in_ok-negative.ensures.kept (rw c.deref-2.ensures.value at c.in_ok-negative.ensures.made) c.in_ok-positive.ensures.kept c.in_ok-positive.ensures.made
    (rw (c.deref-3.ensures.value, c.deref-4.ensures.value) at c.in_ok-digits.ensures.made)
