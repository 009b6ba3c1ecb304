use Rattle.run_terms.proofs.Common.{keeps_trans, is_term-later}
use Rattle.run_terms.proofs.Stepping.{binary_steps}
use Rattle.run_terms.proofs.instructions.step_binary.Goals as goal

pub and_not-requires : goal.and_not-requires
and_not-requires c =
    let k = keeps_trans c.args.terms.now c.computed.new.terms c.integer_value.new.terms c.computed.ensures.kept c.integer_value.ensures.kept in
    record {
      a = is_term-later c.args.terms.now c.integer_value.new.terms k 1 c.args.state.now.alive c.requires.alive;
      b = is_term-later c.computed.new.terms c.integer_value.new.terms c.integer_value.ensures.kept 1 c.in_ok-row.row.undefined c.in_ok-row.ensures.undefined;
    }

pub returns-clause-steps : goal.returns-clause-steps
returns-clause-steps c =
    let old = c.args.terms.now in
    let first = c.computed.new.terms in
    let second = c.integer_value.new.terms in
    let new = c.and_not.new.terms in
    let k = keeps_trans old second new (keeps_trans old first second c.computed.ensures.kept c.integer_value.ensures.kept) c.and_not.ensures.kept in
    rw c.assign.ensures (binary_steps old new k c.args.state.now c.requires c.args.into c.in_ok-value.value first second c.computed.ensures.kept c.integer_value.ensures.kept c.and_not.ensures.kept
    c.args.op c.args.width c.args.operands.left c.args.operands.right c.in_ok-row.row.undefined c.in_ok-state.field-0 c.in_ok-row.row.value c.in_ok-row.ensures.undefined c.in_ok-value.ensures.made
    (λ r names. rw c.as_slice.ensures at (c.in_ok-row.ensures.stands r names)) c.in_ok-value.ensures.stands c.in_ok-state.ensures.made)
