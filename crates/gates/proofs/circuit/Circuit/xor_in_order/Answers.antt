use Rattle.gates.proofs.Folding.{xor-made}
use Rattle.gates.proofs.circuit.Circuit.xor_in_order.Goals as goal

pub returns-clause-made : goal.returns-clause-made
returns-clause-made c = xor-made c.args.self.now c.add.new.self c.args.a c.args.b c.in_ok-plain.plain c.negated_if.result c.in_ok-plain.ensures.made c.negated_if.ensures.index c.negated_if.ensures.says
