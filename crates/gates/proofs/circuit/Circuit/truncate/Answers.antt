-- The first gates go well by themselves.
use Rattle.gates.proofs.Stages.{AreFit-take}
use Rattle.gates.proofs.circuit.Circuit.truncate.Goals as goal

pub invariant_of-self : goal.invariant_of-self
invariant_of-self c = rw c.truncate.ensures.keys (AreFit-take 0 c.args.count c.self.inside.gates.keys c.self.invariant)
