use Rattle.gates.proofs.Stages.{not-value}
use Rattle.gates.proofs.circuit.Circuit.not.Goals as goal

pub returns-clause-made : goal.returns-clause-made
returns-clause-made c = record { within = c.requires; says = λ v. not-value v c.args.self.now c.args.a.index c.args.a.negated }
