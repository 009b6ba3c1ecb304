use Rattle.pair_questions.proofs.Excluding.{of_target-made}
use Rattle.pair_questions.proofs.Uncovering.{shape_input}
use Rattle.pair_questions.proofs.goals.target_run.Goals as goal

pub encode-requires-clause-input : goal.encode-requires-clause-input
encode-requires-clause-input c =
    let s = c.args.subject.now in
    rw (c.requires.subject.of_target, c.requires.subject.shape.layout) (shape_input s.pair.now s.bounds.now s.shape c.args.terms.now c.args.input.now c.requires.subject.shape c.requires.input)

pub returns-clause-made : goal.returns-clause-made
returns-clause-made c =
    let s = c.args.subject.now in
    of_target-made c.args.terms.now c.encode.new.terms c.encode.ensures.kept s.pair.now s.bounds.now s.shape c.args.input.now c.args.tape.now c.requires.input c.requires.words c.in_ok-outcome.outcome
    c.in_ok-outcome.ensures.made (rw c.requires.subject.shape.layout at c.in_ok-outcome.ensures.given)
    (λ v. rw (c.requires.subject.of_target, c.requires.subject.shape.layout) at (c.in_ok-outcome.ensures.stands v))
