use Rattle.run_terms.proofs.Changing.{blocks_later}
use Rattle.run_terms.proofs.Loading.{load_steps}
use Rattle.run_terms.proofs.memory_steps.step_load.Goals as goal

pub load-requires-clause-memory : goal.load-requires-clause-memory
load-requires-clause-memory c = rw c.as_slice-blocks.ensures (blocks_later c.args.terms.now c.operand_of.new.terms c.operand_of.ensures.kept c.args.state.now.memory c.requires.state.memory)

pub returns-clause-steps : goal.returns-clause-steps
returns-clause-steps c = rw c.assign.ensures
    (load_steps c.args.terms.now c.operand_of.new.terms c.load.new.terms c.both.new.terms c.operand_of.ensures.kept c.load.ensures.kept c.both.ensures.kept c.args.state.now c.requires.state c.args.into c.args.of_type c.args.pointer c.args.align
    c.in_ok-at.at c.in_ok-loaded.loaded c.in_ok-state.field-0 c.access_of.result c.access_of.ensures c.in_ok-loaded.ensures.made
    (λ r names. rw c.as_slice.ensures at (c.in_ok-at.ensures.stands r names)) (λ r names. rw c.as_slice-blocks.ensures at (c.in_ok-loaded.ensures.stands r names)) c.in_ok-state.ensures.made)
