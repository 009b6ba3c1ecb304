use Rattle.run_terms.proofs.Common.{keeps_trans, sym_value-later, sym_values-later}
use Rattle.run_terms.proofs.Changing.{blocks_later}
use Rattle.run_terms.proofs.Loading.{gep_steps}
use Rattle.run_terms.proofs.memory_steps.step_gep.Goals as goal

pub indices_of-requires-clause-registers : goal.indices_of-requires-clause-registers
indices_of-requires-clause-registers c = rw c.as_slice-registers.ensures (sym_values-later c.args.terms.now c.operand_of.new.terms c.operand_of.ensures.kept c.args.state.now.registers c.requires.state.registers)

pub gep-requires-clause-memory : goal.gep-requires-clause-memory
gep-requires-clause-memory c = rw c.as_slice-blocks.ensures
    (blocks_later c.args.terms.now c.indices_of.new.terms (keeps_trans c.args.terms.now c.operand_of.new.terms c.indices_of.new.terms c.operand_of.ensures.kept c.indices_of.ensures.kept) c.args.state.now.memory c.requires.state.memory)

pub gep-requires-clause-base : goal.gep-requires-clause-base
gep-requires-clause-base c = sym_value-later c.operand_of.new.terms c.indices_of.new.terms c.indices_of.ensures.kept c.in_ok-base.base c.in_ok-base.ensures.made

pub returns-clause-steps : goal.returns-clause-steps
returns-clause-steps c = rw c.assign.ensures (λ indices same. rw same
    (gep_steps c.args.terms.now c.operand_of.new.terms c.indices_of.new.terms c.gep.new.terms c.operand_of.ensures.kept c.indices_of.ensures.kept c.gep.ensures.kept c.args.state.now c.requires.state c.args.into c.args.path.inbounds c.args.path.nuw c.args.path.of_type.now c.args.path.base c.args.path.indices.now
    c.in_ok-base.base c.in_ok-address.address c.in_ok-indices.indices c.in_ok-base.ensures.made c.in_ok-address.ensures.made
    (λ r names. rw c.as_slice-registers.ensures at (c.in_ok-base.ensures.stands r names)) (λ r names. rw c.as_slice-registers.ensures at (c.in_ok-indices.ensures.stands r names))
    (λ r names. rw (c.as_slice-blocks.ensures, c.as_slice.ensures) at (c.in_ok-address.ensures.stands r names))))
