use Rattle.gates.proofs.Folding.{negated_if-sign, negated_if-value}
use Rattle.gates.proofs.circuit.GateId.negated_if.Goals as goal

pub returns-clause-negated : goal.returns-clause-negated
returns-clause-negated c = negated_if-sign c.args.self.negated c.args.negate

pub returns-clause-says : goal.returns-clause-says
returns-clause-says c = λ v gates. negated_if-value v gates c.args.self c.args.negate
