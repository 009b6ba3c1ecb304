use Rattle.encoder.proofs.Common.{◌∙◌, ap, keeps_trans, words-later, EndingShape, copies_in}
use Rattle.encoder.proofs.Whole.{encode_stands}
use Rattle.encoder.proofs.function_run.encode.Goals as goal

pub pass_all-requires-clause-copies : goal.pass_all-requires-clause-copies
pass_all-requires-clause-copies c = rw c.requires.layers (copies_in c.args.f.now c.args.layered.now.turns)

pub pass_all-requires-clause-tape : goal.pass_all-requires-clause-tape
pass_all-requires-clause-tape c = rw c.as_slice-words.ensures (words-later c.args.terms.now c.enter.new.terms c.enter.ensures.kept c.args.tape.now.words c.requires.tape)

pub finish-requires-clause-tape : goal.finish-requires-clause-tape
finish-requires-clause-tape c = rw c.as_slice-words.ensures (words-later c.args.terms.now c.pass_all.new.terms
    (keeps_trans c.args.terms.now c.enter.new.terms c.pass_all.new.terms c.enter.ensures.kept c.pass_all.ensures.kept) c.args.tape.now.words c.requires.tape)

pub finish-requires-clause-ending : goal.finish-requires-clause-ending
finish-requires-clause-ending c = c.in_ok-pass_all.ensures.frontier.ending

pub returns-clause-valued : goal.returns-clause-valued
returns-clause-valued c = c.in_ok-outcome.ensures.valued ∙ ap (λ (s : EndingShape). s.valued) c.in_ok-pass_all.ensures.shape.ending

pub returns-clause-given : goal.returns-clause-given
returns-clause-given c = c.in_ok-outcome.ensures.given ∙ ap (λ (s : EndingShape). s.frames) c.in_ok-pass_all.ensures.shape.ending

pub returns-clause-stands : goal.returns-clause-stands
returns-clause-stands c = λ bounds v within. encode_stands c.args.terms.now c.enter.new.terms c.pass_all.new.terms c.finish.new.terms c.args.f.now c.args.layered.now c.args.layout.now c.args.input.now c.args.tape.now.words
    c.in_ok-frontier.frontier c.pass_all.new.frontier c.in_ok-outcome.outcome c.requires.tape c.requires.layers c.enter.ensures.kept c.pass_all.ensures.kept
    c.in_ok-frontier.ensures.stands
    (λ g w. rw c.as_slice-words.ensures at (c.in_ok-pass_all.ensures.passes g w))
    (λ g run. rw c.as_slice-words.ensures at (c.in_ok-outcome.ensures.stands g run)) bounds v within

pub returns-clause-kept : goal.returns-clause-kept
returns-clause-kept c = keeps_trans c.args.terms.now c.enter.new.terms c.finish.new.terms c.enter.ensures.kept (keeps_trans c.enter.new.terms c.pass_all.new.terms c.finish.new.terms c.pass_all.ensures.kept c.finish.ensures.kept)
