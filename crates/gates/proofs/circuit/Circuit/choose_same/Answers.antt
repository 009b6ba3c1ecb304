-- Of opposite arms the choice is an exclusive or.
use Rattle.gates.proofs.Common.{◌∙◌, ap, cond, sym, gate_at}
use Rattle.gates.proofs.Stages.{IfOk-then}
use Rattle.gates.proofs.Folding.{opposite-place}
use Rattle.gates.proofs.circuit.Circuit.choose_same.Goals as goal

pub returns-else-a-b-clause-made : goal.returns-else-a-b-clause-made
returns-else-a-b-clause-made c = IfOk-then c.xor.result _ _ c.xor.ensures.made (λ id made. record {
  within = made.within;
  says = λ v.
      let old = c.args.self.now in
      made.says v ∙ ap (λ x. cond (gate_at v old c.args.c) x (gate_at v old c.args.b)) (sym (opposite-place v old c.args.a c.args.b c.requires.same c.if-a-b.false));
})
