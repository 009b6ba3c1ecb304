use Rattle.gate_arith.proofs.Adders.{difference-cut}
use Rattle.gate_arith.proofs.sums.difference.Goals as goal

pub returns-clause-made : goal.returns-clause-made
returns-clause-made c = difference-cut c.args.circuit.now c.minus.new.circuit c.args.a.now c.args.b.now c.in_ok-whole.whole.digits.items c.in_ok-whole.whole.carry c.in_ok-whole.ensures.made
