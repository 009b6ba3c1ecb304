use Rattle.pair_questions.proofs.Common.{is_outcome-later}
use Rattle.pair_questions.proofs.Trying.{covered_in, tried}
use Rattle.pair_questions.proofs.goals.and_uncovered.Goals as goal

pub covered-requires-clause-target : goal.covered-requires-clause-target
covered-requires-clause-target c = is_outcome-later c.args.terms.now c.encode.new.terms c.encode.ensures.kept c.args.trial.now.target.now c.requires.trial.target

pub returns-clause-made : goal.returns-clause-made
returns-clause-made c =
    let bounds = c.args.trial.now.bounds.now in
    let layout = c.args.trial.now.layout.now in
    tried c.args.terms.now c.encode.new.terms c.covered.new.terms c.negation.new.terms c.both.new.terms c.args.trial.now.source.now.of.now bounds layout c.args.trial.now.input.now c.args.candidate.now.words
    c.in_ok-source.source c.args.trial.now.target.now c.args.goal c.in_ok-is_covered.is_covered c.in_ok-is_uncovered.is_uncovered c.in_ok-id.id
    c.encode.ensures.kept c.covered.ensures.kept c.negation.ensures.kept c.requires.trial.target c.requires.goal
    c.in_ok-source.ensures.stands
    (covered_in c.encode.new.terms c.covered.new.terms layout c.in_ok-source.source c.args.trial.now.target.now c.in_ok-is_covered.is_covered c.in_ok-source.ensures.given c.in_ok-is_covered.ensures.made)
    c.in_ok-is_uncovered.ensures.made c.in_ok-id.ensures.made
