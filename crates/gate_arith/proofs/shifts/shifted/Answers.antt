use Rattle.gate_arith.proofs.Common.{arith}
use Rattle.gate_arith.proofs.Moved.{shifted-writes}
use Rattle.gate_arith.proofs.shifts.shifted.Goals as goal

pub returns-clause-made : goal.returns-clause-made
returns-clause-made c = shifted-writes c.args.circuit.now c.staged.new.circuit c.any.new.circuit c.constant.new.self c.choose.new.circuit c.args.direction c.args.a.now c.args.amount.now
    c.in_ok-value.value.items c.in_ok-zeros.zeros.items c.in_ok-digits.digits.items c.stages-count.result c.in_ok-past.past c.in_ok-zero.zero c.requires.a c.requires.amount
    (omega (arith, c.stages-count.ensures.within, c.requires.alike)) c.stages-count.ensures.enough c.in_ok-value.ensures.kept (rw c.split_at.ensures.back at c.in_ok-value.ensures.made)
    c.in_ok-past.ensures.kept (rw c.split_at.ensures.front at c.in_ok-past.ensures.made) c.in_ok-zero.ensures.kept c.in_ok-zero.ensures.made c.in_ok-zeros.ensures
    (rw (c.deref.ensures.value, c.deref-2.ensures.value) at c.in_ok-digits.ensures.made)
