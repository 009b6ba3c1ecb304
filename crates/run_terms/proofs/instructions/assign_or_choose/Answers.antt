use Rattle.run_terms.proofs.Common.{keeps_trans, sym_value-later}
use Rattle.run_terms.proofs.Lasting.{state-later}
use Rattle.run_terms.proofs.Freezing.{choice_steps}
use Rattle.run_terms.proofs.instructions.assign_or_choose.Goals as goal

pub choose-requires-clause-state : goal.choose-requires-clause-state
choose-requires-clause-state c = state-later c.args.terms.now c.both.new.terms c.both.ensures.kept c.args.state.now c.requires.state

pub frozen-requires-clause-value : goal.frozen-requires-clause-value
frozen-requires-clause-value c =
    sym_value-later c.args.terms.now c.choose.new.terms (keeps_trans c.args.terms.now c.both.new.terms c.choose.new.terms c.both.ensures.kept c.choose.ensures.kept) c.args.value c.requires.value

pub returns-clause-steps : goal.returns-clause-steps
returns-clause-steps c = rw c.assign.ensures
    (choice_steps c.args.terms.now c.both.new.terms c.choose.new.terms c.frozen.new.terms c.both.ensures.kept c.choose.ensures.kept c.frozen.ensures.kept c.args.state.now c.requires.state c.args.into c.args.of_type
    c.args.value c.in_ok-choice.choice.value c.in_ok-value.value c.requires.value c.in_ok-taken.taken c.in_ok-choice.choice.tally c.in_ok-choice.choice.words_bound c.args.tape.now c.requires.tape c.in_ok-choice.ensures.tally c.in_ok-value.ensures.made
    c.in_ok-choice.ensures.words_bound c.in_ok-taken.ensures.made c.in_ok-choice.ensures.stays c.in_ok-choice.ensures.takes c.in_ok-value.ensures.stands)
