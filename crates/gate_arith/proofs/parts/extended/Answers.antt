use Rattle.gate_arith.proofs.Common.{◌-◌, length, arith}
use Rattle.gate_arith.proofs.Pieces.{extended-writes}
use Rattle.gate_arith.proofs.parts.extended.Goals as goal

pub returns-clause-made : goal.returns-clause-made
returns-clause-made c = extended-writes c.args.circuit.now c.constant.new.self c.args.a.now c.in_ok-zeros.zeros.items c.in_ok-digits.digits.items c.in_ok-zero.zero c.args.width (c.args.width - length c.args.a.now)
    c.in_ok-zero.ensures.kept c.requires.a c.in_ok-zero.ensures.made c.in_ok-zeros.ensures (omega (arith, c.requires.wider)) (rw c.deref.ensures.value at c.in_ok-digits.ensures)
