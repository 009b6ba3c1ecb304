use Rattle.run_terms.proofs.Common.{List, refl, compared, Value, operand_value}
use Rattle.ir_tree.specs.declared.tree.Inst.TheVariants as inst
use Rattle.run_terms.proofs.Stepping.{result_steps}
use Rattle.run_terms.proofs.instructions.step_icmp.Goals as goal

pub returns-clause-steps : goal.returns-clause-steps
returns-clause-steps c = rw c.assign.ensures (result_steps c.args.terms.now c.comparison.new.terms c.comparison.ensures.kept c.args.state.now c.requires (inst.Icmp c.args.into c.args.predicate c.args.same_sign c.args.width c.args.operands.left c.args.operands.right) c.args.into c.in_ok-value.value
    (λ (rs : List Value). compared c.args.predicate c.args.same_sign c.args.width.bits (operand_value rs c.args.operands.left) (operand_value rs c.args.operands.right)) c.in_ok-value.ensures.made (λ tape m. refl) (λ r names. rw c.as_slice-registers.ensures at (c.in_ok-value.ensures.stands r names)))
