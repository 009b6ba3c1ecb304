-- An and gate has its two in order, so the values may be the other way round.
use Rattle.gates.proofs.Common.{◌∙◌, ◌&&◌, ap, gate_at}
use Rattle.gates.proofs.Stages.{IfOk-then}
use Rattle.gates.proofs.Stages.{and-value, and-swapped}
use Rattle.gates.proofs.Folding.{kept-twice}
use Rattle.gates.proofs.circuit.Circuit.and_apart.Goals as goal

pub returns-then-a-b-clause-made : goal.returns-then-a-b-clause-made
returns-then-a-b-clause-made c = IfOk-then c.add.result _ _ c.add.ensures.made (λ id made. record {
  within = made.within;
  says = λ v.
      let old = c.args.self.now in
      let mid = c.absorbed-2.new.self in
      let a = kept-twice v old c.absorbed.new.self mid c.args.a c.in_ok-id.ensures.kept c.in_ok-id-2.ensures.kept c.requires.a in
      let b = kept-twice v old c.absorbed.new.self mid c.args.b c.in_ok-id.ensures.kept c.in_ok-id-2.ensures.kept c.requires.b in
      made.says v ∙ (and-value v mid c.args.a c.args.b ∙ (ap (λ x. x && gate_at v mid c.args.b) a ∙ ap (λ x. gate_at v old c.args.a && x) b));
})

pub returns-else-a-b-clause-made : goal.returns-else-a-b-clause-made
returns-else-a-b-clause-made c = IfOk-then c.add-else-a-b.result _ _ c.add-else-a-b.ensures.made (λ id made. record {
  within = made.within;
  says = λ v.
      let old = c.args.self.now in
      let mid = c.absorbed-2.new.self in
      let a = kept-twice v old c.absorbed.new.self mid c.args.a c.in_ok-id.ensures.kept c.in_ok-id-2.ensures.kept c.requires.a in
      let b = kept-twice v old c.absorbed.new.self mid c.args.b c.in_ok-id.ensures.kept c.in_ok-id-2.ensures.kept c.requires.b in
      made.says v ∙ (and-value v mid c.args.b c.args.a ∙ (and-swapped (gate_at v mid c.args.b) (gate_at v mid c.args.a)
      ∙ (ap (λ x. x && gate_at v mid c.args.b) a ∙ ap (λ x. gate_at v old c.args.a && x) b)));
})
