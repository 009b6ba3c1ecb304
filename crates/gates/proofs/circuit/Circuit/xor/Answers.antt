-- Of gates at one index the signs decide.
use Rattle.gates.proofs.Common.{◌∙◌}
use Rattle.gates.proofs.Stages.{IfOk-then}
use Rattle.gates.proofs.Folding.{exclusive-place}
use Rattle.gates.proofs.circuit.Circuit.xor.Goals as goal

pub returns-then-a-b-clause-made : goal.returns-then-a-b-clause-made
returns-then-a-b-clause-made c = IfOk-then c.constant.result _ _ c.constant.ensures.made (λ id made. record {
  within = made.within;
  says = λ v. made.says v ∙ exclusive-place v c.args.self.now c.args.a c.args.b c.if-a-b.true;
})
