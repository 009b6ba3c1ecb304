use Rattle.run_terms.proofs.Common.{keeps_trans, sym_values-later}
use Rattle.run_terms.proofs.Changing.{blocks_later}
use Rattle.run_terms.proofs.Loading.{store_steps}
use Rattle.run_terms.proofs.memory_steps.step_store.Goals as goal

pub typed_operand_of-requires : goal.typed_operand_of-requires
typed_operand_of-requires c = rw c.as_slice-registers.ensures (sym_values-later c.args.terms.now c.operand_of.new.terms c.operand_of.ensures.kept c.args.state.now.registers c.requires.state.registers)

pub store-requires-clause-memory : goal.store-requires-clause-memory
store-requires-clause-memory c =
    blocks_later c.args.terms.now c.typed_operand_of.new.terms (keeps_trans c.args.terms.now c.operand_of.new.terms c.typed_operand_of.new.terms c.operand_of.ensures.kept c.typed_operand_of.ensures.kept) c.args.state.now.memory c.requires.state.memory

pub returns-clause-steps : goal.returns-clause-steps
returns-clause-steps c =
    store_steps c.args.terms.now c.operand_of.new.terms c.typed_operand_of.new.terms c.store.new.terms c.both.new.terms c.operand_of.ensures.kept c.typed_operand_of.ensures.kept c.store.ensures.kept c.both.ensures.kept
    c.args.state.now c.requires.state c.args.value c.args.pointer c.args.align c.in_ok-at.at c.in_ok-written.written c.in_ok-is_defined.is_defined c.in_ok-state.field-0 c.access_of-access.result c.store.new.memory
    c.access_of-access.ensures c.in_ok-at.ensures.made c.in_ok-is_defined.ensures.memory c.in_ok-is_defined.ensures.frames
    (λ r names. rw c.as_slice-registers.ensures at (c.in_ok-at.ensures.stands r names)) (λ r names. rw c.as_slice-registers.ensures at (c.in_ok-written.ensures.stands r names))
    c.in_ok-is_defined.ensures.stands c.in_ok-is_defined.ensures.after c.in_ok-state.ensures.made
