-- A gate and its negation are never both 1.
use Rattle.gates.proofs.Common.{◌∙◌, sym}
use Rattle.gates.proofs.Stages.{IfOk-then}
use Rattle.gates.proofs.Stages.{apart-value}
use Rattle.gates.proofs.circuit.Circuit.and_same.Goals as goal

pub returns-else-a-b-clause-made : goal.returns-else-a-b-clause-made
returns-else-a-b-clause-made c = IfOk-then c.constant.result _ _ c.constant.ensures.made (λ id made. record {
  within = made.within;
  says = λ v. made.says v ∙ sym (apart-value v c.args.self.now c.args.a c.args.b c.requires.same c.if-a-b.false);
})
