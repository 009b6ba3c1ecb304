use Rattle.run_terms.proofs.Common.{◌∙◌, ap, sym, List, on_ok_weaker, typed_value, keeps_trans, values-later, words-later, naming, Value, operand_value, sight}
use Rattle.run_terms.proofs.Lasting.{sees-later, state-later}
use Rattle.run_terms.proofs.Stepping.{steps_later}
use Rattle.run_terms.proofs.Freezing.{plain_steps}
use Rattle.run_terms.proofs.instructions.step_freeze.Goals as goal

pub assign_or_choose-requires-clause-state : goal.assign_or_choose-requires-clause-state
assign_or_choose-requires-clause-state c =
    state-later c.args.terms.now c.typed.new.terms (keeps_trans c.args.terms.now c.operand_of.new.terms c.typed.new.terms c.operand_of.ensures.kept c.typed.ensures.kept) c.args.state.now c.requires.state

pub assign_or_choose-requires-clause-tape : goal.assign_or_choose-requires-clause-tape
assign_or_choose-requires-clause-tape c =
    words-later c.args.terms.now c.typed.new.terms (keeps_trans c.args.terms.now c.operand_of.new.terms c.typed.new.terms c.operand_of.ensures.kept c.typed.ensures.kept) c.args.tape.now c.requires.tape

pub returns-then-is_plainly_false-clause-steps : goal.returns-then-is_plainly_false-clause-steps
returns-then-is_plainly_false-clause-steps c =
    let old = c.args.terms.now in
    let new = c.typed.new.terms in
    let k = keeps_trans old c.operand_of.new.terms new c.operand_of.ensures.kept c.typed.ensures.kept in
    rw c.assign.ensures (plain_steps old new k c.args.state.now c.requires.state c.args.into c.args.of_type c.args.operand c.in_ok-value-2.value c.in_ok-value-2.ensures.made
    (λ r names. c.in_ok-value-2.ensures.stands r ∙ ap (typed_value c.args.of_type) (rw c.as_slice.ensures at (c.in_ok-value.ensures.stands r names)))
    (c.is_plainly_false.ensures c.if-is_plainly_false.true))

pub returns-else-is_plainly_false-clause-steps : goal.returns-else-is_plainly_false-clause-steps
returns-else-is_plainly_false-clause-steps c =
    let old = c.args.terms.now in
    let new = c.typed.new.terms in
    let k = keeps_trans old c.operand_of.new.terms new c.operand_of.ensures.kept c.typed.ensures.kept in
    let s = c.args.state.now in
    on_ok_weaker c.assign_or_choose.result (λ so. steps_later (so c.args.operand) k c.requires.state (λ g at sees. (
      sees-later old new k g c.args.tape.now c.requires.tape sees,
      c.in_ok-value-2.ensures.stands (sight g) ∙ ap (typed_value c.args.of_type) ((rw c.as_slice.ensures at (c.in_ok-value.ensures.stands (sight g) (naming g.given)))
          ∙ ap (λ (rs : List Value). operand_value rs c.args.operand) (sym (values-later old new k (sight g) s.registers c.requires.state.registers))),
    ))) c.assign_or_choose.ensures.steps
