use Rattle.run_terms.proofs.Common.{List, refl, cast_value, Value, operand_value}
use Rattle.ir_tree.specs.declared.tree.Inst.TheVariants as inst
use Rattle.run_terms.proofs.Stepping.{result_steps}
use Rattle.run_terms.proofs.instructions.step_cast.Goals as goal

pub returns-clause-steps : goal.returns-clause-steps
returns-clause-steps c = rw c.assign.ensures (result_steps c.args.terms.now c.conversion.new.terms c.conversion.ensures.kept c.args.state.now c.requires (inst.Cast c.args.into c.args.cast c.args.from c.args.operand c.args.to) c.args.into c.in_ok-value.value
    (λ (rs : List Value). cast_value c.args.cast c.args.from.bits c.args.to.bits (operand_value rs c.args.operand)) c.in_ok-value.ensures.made (λ tape m. refl) (λ r names. rw c.as_slice-registers.ensures at (c.in_ok-value.ensures.stands r names)))
