use Rattle.run_terms.proofs.Common.{List, refl, selected, Value, operand_value, typed_operand_value}
use Rattle.ir_tree.specs.declared.tree.Inst.TheVariants as inst
use Rattle.run_terms.proofs.Stepping.{result_steps}
use Rattle.run_terms.proofs.instructions.step_select.Goals as goal

pub returns-clause-steps : goal.returns-clause-steps
returns-clause-steps c = rw c.assign.ensures (result_steps c.args.terms.now c.selection.new.terms c.selection.ensures.kept c.args.state.now c.requires (inst.Select c.args.into c.args.condition c.args.if_true c.args.if_false) c.args.into c.in_ok-value.value
    (λ (rs : List Value). selected (operand_value rs c.args.condition) (typed_operand_value rs c.args.if_true) (typed_operand_value rs c.args.if_false)) c.in_ok-value.ensures.made (λ tape m. refl) (λ r names. rw c.as_slice-registers.ensures at (c.in_ok-value.ensures.stands r names)))
