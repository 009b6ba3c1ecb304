use Rattle.gates.proofs.Folding.{choose-made}
use Rattle.gates.proofs.circuit.Circuit.choose_plain.Goals as goal

pub returns-clause-made : goal.returns-clause-made
returns-clause-made c =
    choose-made c.args.self.now c.add.new.self c.args.c c.args.a c.args.b c.in_ok-plain.plain c.negated_if.result c.negated_if-2.result c.in_ok-plain.ensures.made
    c.requires.plain c.negated_if.ensures.says c.negated_if-2.ensures.index c.negated_if-2.ensures.says
