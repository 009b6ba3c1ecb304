use Rattle.pair_questions.proofs.Common.{[], ◌∷◌, ap, is_input-later, is_outcome-later, layout_of}
use Rattle.pair_questions.proofs.SameTapes.{narrowed_same, same_as}
use Rattle.pair_questions.proofs.Trying.{a_trial}
use Rattle.pair_questions.proofs.Uncovering.{shape_input, source_input}
use Rattle.pair_questions.proofs.goals.and_no_tape.Goals as goal

pub and_uncovered-requires-clause-trial : goal.and_uncovered-requires-clause-trial
and_uncovered-requires-clause-trial c =
    let s = c.args.subject.now in
    let old = c.args.terms.now in
    let mid = c.known.new.terms in
    let pair = s.pair.now in
    let bounds = s.bounds.now in
    let input = c.args.of.now.input in
    let there = source_input old pair.source pair.target (layout_of pair bounds) input c.requires.subject.signature (shape_input pair bounds s.shape old input c.requires.subject.shape c.requires.terms.input) in
    rw c.requires.subject.shape.layout (a_trial mid _ pair.source c.requires.subject.of_source c.requires.subject.source c.requires.subject.ready.source_run
    (is_input-later old mid c.known.ensures.kept pair.source.parameters (layout_of pair bounds) input there) (is_outcome-later old mid c.known.ensures.kept c.args.of.now.target c.requires.terms.target.made) c.requires.terms.target.given)

pub returns-clause-made : goal.returns-clause-made
returns-clause-made c =
    let s = c.args.subject.now in
    let old = c.args.terms.now in
    let mid = c.known.new.terms in
    let pair = s.pair.now in
    let bounds = s.bounds.now in
    let input = c.args.of.now.input in
    let candidate = c.in_ok-candidate.candidate in
    let there = source_input old pair.source pair.target (layout_of pair bounds) input c.requires.subject.signature (shape_input pair bounds s.shape old input c.requires.subject.shape c.requires.terms.input) in
    narrowed_same old mid c.and_uncovered.new.terms pair.source bounds (layout_of pair bounds) input c.args.of.now.target c.args.goal c.in_ok-id.id (candidate ∷ []) (λ v. c.args.tape.now ∷ []) c.known.ensures.kept there c.requires.terms.target.made c.requires.goal
    (λ v. same_as _ _ (ap (λ ws. ws ∷ []) (c.in_ok-candidate.ensures.stands v))) (rw (c.requires.subject.of_source, c.requires.subject.shape.layout) at c.in_ok-id.ensures.made)
