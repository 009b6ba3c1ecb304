use Rattle.gate_arith.proofs.Common.{◌-◌, length, take_rest}
use Rattle.gate_arith.proofs.Moved.{front-writes}
use Rattle.gate_arith.proofs.shifts.moved_up.Goals as goal

pub returns-clause-made : goal.returns-clause-made
returns-clause-made c = front-writes c.args.circuit.now c.constant.new.self c.args.a.now c.in_ok-zeros.zeros.items c.in_ok-digits.digits.items _ c.in_ok-zero.zero c.saturating_sub-left.result c.args.count
    c.in_ok-zero.ensures.kept c.requires c.in_ok-zero.ensures.made c.saturating_sub-left.ensures c.in_ok-zeros.ensures (take_rest c.args.a.now (length c.args.a.now - c.saturating_sub-left.result))
    (rw c.deref.ensures.value at c.in_ok-digits.ensures)
