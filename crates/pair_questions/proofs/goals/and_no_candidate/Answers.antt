use Rattle.pair_questions.proofs.Common.{is_input-later, is_outcome-later, layout_of, words_at, words_of_each}
use Rattle.pair_questions.proofs.SameTapes.{narrowed_same}
use Rattle.pair_questions.proofs.Trying.{a_trial}
use Rattle.pair_questions.proofs.Uncovering.{shape_input, source_input}
use Rattle.pair_questions.proofs.goals.and_no_candidate.Goals as goal

pub and_none-requires-clause-trial : goal.and_none-requires-clause-trial
and_none-requires-clause-trial c =
    let s = c.args.subject.now in
    let old = c.args.terms.now in
    let mid = c.candidate_tapes.new.terms in
    let pair = s.pair.now in
    let bounds = s.bounds.now in
    let input = c.args.of.now.input in
    let k = c.candidate_tapes.ensures.kept in
    let there = source_input old pair.source pair.target (layout_of pair bounds) input c.requires.subject.signature (shape_input pair bounds s.shape old input c.requires.subject.shape c.requires.terms.input) in
    rw c.requires.subject.shape.layout (a_trial mid _ pair.source c.requires.subject.of_source c.requires.subject.source c.requires.subject.ready.source_run
    (is_input-later old mid k pair.source.parameters (layout_of pair bounds) input there) (is_outcome-later old mid k c.args.of.now.target c.requires.terms.target.made) c.requires.terms.target.given)

pub returns-clause-made : goal.returns-clause-made
returns-clause-made c =
    let s = c.args.subject.now in
    let old = c.args.terms.now in
    let mid = c.candidate_tapes.new.terms in
    let pair = s.pair.now in
    let bounds = s.bounds.now in
    let of = c.args.of.now in
    let there = source_input old pair.source pair.target (layout_of pair bounds) of.input c.requires.subject.signature (shape_input pair bounds s.shape old of.input c.requires.subject.shape c.requires.terms.input) in
    narrowed_same old mid c.and_none.new.terms pair.source bounds (layout_of pair bounds) of.input of.target c.args.goal c.in_ok-id.id c.in_ok-tapes.tapes.items
    (λ v. words_of_each s.need (words_at v old of.numbers) (words_at v old of.tape.words) c.args.candidates.now) c.candidate_tapes.ensures.kept there c.requires.terms.target.made c.requires.goal
    (λ v. rw (c.as_slice.ensures, c.as_slice-2.ensures) at (c.in_ok-tapes.ensures.same v)) (rw (c.requires.subject.of_source, c.requires.subject.shape.layout, c.as_slice-3.ensures.value) at c.in_ok-id.ensures.made)
