use Rattle.gate_arith.proofs.Adders.{sum-cut}
use Rattle.gate_arith.proofs.sums.sum.Goals as goal

pub returns-clause-made : goal.returns-clause-made
returns-clause-made c = sum-cut c.args.circuit.now c.constant.new.self c.sum_with_carry.new.circuit c.args.a.now c.args.b.now c.in_ok-zero.zero c.in_ok-whole.whole.digits.items c.in_ok-whole.whole.carry
    c.in_ok-zero.ensures.kept c.requires.a c.requires.b c.in_ok-zero.ensures.made c.in_ok-whole.ensures.sum
