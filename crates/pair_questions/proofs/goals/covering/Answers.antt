use Rattle.pair_questions.proofs.Common.{sym, ◌∙◌, arith, keeps_trans, is_input-later, words-later, is_outcome-later, layout_of}
use Rattle.pair_questions.proofs.Fitting.{of_shape}
use Rattle.pair_questions.proofs.Trying.{covered_in}
use Rattle.pair_questions.proofs.Uncovering.{shape_input, source_input, covering_decides}
use Rattle.pair_questions.proofs.goals.covering.Goals as goal

pub known_input-requires-clause-point : goal.known_input-requires-clause-point
known_input-requires-clause-point c =
    let s = c.args.subject.now in
    of_shape s.pair.now s.bounds.now s.shape c.requires.subject.shape c.args.point.now c.requires.point

pub known_input-requires-clause-blocks : goal.known_input-requires-clause-blocks
known_input-requires-clause-blocks c = rw c.requires.subject.shape.layout (omega (arith, c.requires.subject.ready.small.blocks))

pub known_input-requires-clause-bytes : goal.known_input-requires-clause-bytes
known_input-requires-clause-bytes c = rw c.requires.subject.shape.layout (omega (arith, c.requires.subject.ready.small.bytes))

pub target_run-requires-clause-input : goal.target_run-requires-clause-input
target_run-requires-clause-input c =
    let s = c.args.subject.now in
    is_input-later c.known_input.new.terms c.known.new.terms c.known.ensures.kept s.shape.parameters s.shape.layout c.in_ok-input.input c.in_ok-input.ensures.is

pub encode-requires-clause-input : goal.encode-requires-clause-input
encode-requires-clause-input c =
    let s = c.args.subject.now in
    let pair = s.pair.now in
    let bounds = s.bounds.now in
    let one = c.known_input.new.terms in
    let three = c.target_run.new.terms in
    let input = c.in_ok-input.input in
    let there = source_input one pair.source pair.target (layout_of pair bounds) input c.requires.subject.signature (shape_input pair bounds s.shape one input c.requires.subject.shape c.in_ok-input.ensures.is) in
    rw (c.requires.subject.of_source, c.requires.subject.shape.layout) (is_input-later one three (keeps_trans one c.known.new.terms three c.known.ensures.kept c.target_run.ensures.kept) pair.source.parameters (layout_of pair bounds) input there)

pub encode-requires-clause-tape : goal.encode-requires-clause-tape
encode-requires-clause-tape c =
    let old = c.args.terms.now in
    let one = c.known_input.new.terms in
    let two = c.known.new.terms in
    let three = c.target_run.new.terms in
    words-later old three (keeps_trans old two three (keeps_trans old one two c.known_input.ensures.kept c.known.ensures.kept) c.target_run.ensures.kept) c.args.tape.now.words c.requires.words

pub returns-in_err-source-clause-kept : goal.returns-in_err-source-clause-kept
returns-in_err-source-clause-kept c =
    let old = c.args.terms.now in
    let one = c.known_input.new.terms in
    let two = c.known.new.terms in
    let three = c.target_run.new.terms in
    let four = c.encode.new.terms in
    keeps_trans old three four (keeps_trans old two three (keeps_trans old one two c.known_input.ensures.kept c.known.ensures.kept) c.target_run.ensures.kept) c.encode.ensures.kept

pub covered-requires-clause-target : goal.covered-requires-clause-target
covered-requires-clause-target c = is_outcome-later c.target_run.new.terms c.encode.new.terms c.encode.ensures.kept c.in_ok-target.target c.in_ok-target.ensures.made.made

pub covered-requires-clause-frames : goal.covered-requires-clause-frames
covered-requires-clause-frames c = c.in_ok-target.ensures.made.given ∙ sym (rw c.requires.subject.shape.layout at c.in_ok-source.ensures.given)

pub returns-in_err-id-clause-kept : goal.returns-in_err-id-clause-kept
returns-in_err-id-clause-kept c =
    let old = c.args.terms.now in
    let one = c.known_input.new.terms in
    let two = c.known.new.terms in
    let three = c.target_run.new.terms in
    let four = c.encode.new.terms in
    let five = c.covered.new.terms in
    keeps_trans old four five (keeps_trans old three four (keeps_trans old two three (keeps_trans old one two c.known_input.ensures.kept c.known.ensures.kept) c.target_run.ensures.kept) c.encode.ensures.kept) c.covered.ensures.kept

pub returns-clause-made : goal.returns-clause-made
returns-clause-made c =
    let s = c.args.subject.now in
    covering_decides c.args.terms.now c.known_input.new.terms c.known.new.terms c.target_run.new.terms c.encode.new.terms c.covered.new.terms s.pair.now s.bounds.now s.shape c.args.point.now
    c.in_ok-input.input c.args.tape.now c.in_ok-choices.choices c.in_ok-source.source c.in_ok-target.target c.in_ok-id.id
    c.values_fit.ensures c.requires.words (c.requires.count ∙ c.requires.subject.need) c.requires.subject.shape c.in_ok-input.ensures.is c.in_ok-choices.ensures.are
    c.known_input.ensures.kept c.known.ensures.kept c.target_run.ensures.kept c.encode.ensures.kept
    c.in_ok-input.ensures.stands (λ v. c.in_ok-choices.ensures.stands v ∙ c.as_slice.ensures) c.in_ok-target.ensures.made
    (λ v. rw (c.requires.subject.of_source, c.requires.subject.shape.layout) at (c.in_ok-source.ensures.stands v))
    (covered_in c.encode.new.terms c.covered.new.terms (layout_of s.pair.now s.bounds.now) c.in_ok-source.source c.in_ok-target.target c.in_ok-id.id (rw c.requires.subject.shape.layout at c.in_ok-source.ensures.given) c.in_ok-id.ensures.made)

pub returns-clause-kept : goal.returns-clause-kept
returns-clause-kept c =
    let old = c.args.terms.now in
    let one = c.known_input.new.terms in
    let two = c.known.new.terms in
    let three = c.target_run.new.terms in
    let four = c.encode.new.terms in
    let five = c.covered.new.terms in
    keeps_trans old four five (keeps_trans old three four (keeps_trans old two three (keeps_trans old one two c.known_input.ensures.kept c.known.ensures.kept) c.target_run.ensures.kept) c.encode.ensures.kept) c.covered.ensures.kept
