use Rattle.gates.proofs.Folding.{same-place}
use Rattle.gates.proofs.circuit.Circuit.value_where.Goals as goal

pub returns-then-c-a-clause-some : goal.returns-then-c-a-clause-some
returns-then-c-a-clause-some c = λ v on. same-place v c.args.self.now c.args.c c.args.a c.if-c-a.true on
