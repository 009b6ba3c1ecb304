use Rattle.pair_questions.proofs.Common.{◌&&◌, ◌+◌, drop, refl, bit_at, TapeTerms, AreWords, words_at, each-at, keeps_self, keeps_trans, words-later, words_at-later, input_in, none_allows, outcome_in, tapes_at}
use Rattle.pair_questions.proofs.SameTapes.{tapes_behind}
use Rattle.pair_questions.proofs.Trying.{trial_later, tried_more, tried_all, mapped_more}
use Rattle.pair_questions.proofs.goals.and_none.Goals as goal

pub and_uncovered-requires-clause-trial : goal.and_uncovered-requires-clause-trial
and_uncovered-requires-clause-trial c = trial_later c.args.terms.now c.loop-candidate.terms c.loop-candidate.invariant.kept c.args.trial.now c.requires.trial

pub and_uncovered-requires-clause-words : goal.and_uncovered-requires-clause-words
and_uncovered-requires-clause-words c =
    let old = c.args.terms.now in
    words-later old c.loop-candidate.terms c.loop-candidate.invariant.kept c.candidate-item.result.words
    (each-at (λ (t : TapeTerms). AreWords old t.words) c.args.candidates.now c.loop-candidate.candidate-index c.candidate-item.result c.requires.candidates c.loop-candidate-test.true c.candidate-item.is)

pub loop-candidate-preserved : goal.loop-candidate-preserved
loop-candidate-preserved c =
    let old = c.args.terms.now in
    let before = c.loop-candidate.terms in
    let after = c.and_uncovered.new.terms in
    let f = c.args.trial.now.source.now.of.now in
    let input = c.args.trial.now.input.now in
    let target = c.args.trial.now.target.now in
    let bounds = c.args.trial.now.bounds.now in
    let layout = c.args.trial.now.layout.now in
    let i = c.loop-candidate.candidate-index in
    let tapes = c.args.candidates.now in
    let tape = c.candidate-item.result in
    let kept = c.loop-candidate.invariant.kept in
    let made = c.in_ok-goal.ensures.made in
    let are : AreWords old tape.words = each-at (λ (t : TapeTerms). AreWords old t.words) tapes i tape c.requires.candidates c.loop-candidate-test.true c.candidate-item.is in
    record {
      kept = keeps_trans old before after kept c.and_uncovered.ensures.kept;
      goal = record { within = made.within; wide = made.wide };
      rest =
          tried_more old before before after f bounds layout input target c.loop-candidate.goal c.in_ok-goal.goal (λ v. words_at v old tape.words) tape.words
          (λ v. drop (i + 1) (tapes_at v old tapes))
          (λ v. bit_at v old c.args.goal && none_allows f bounds (input_in layout v old input) (outcome_in layout v old target) (tapes_at v old tapes))
          c.requires.trial.input c.requires.trial.target kept (keeps_self before) c.loop-candidate.invariant.goal
          (λ v. words_at-later old before kept v tape.words are) c.in_ok-goal.ensures.made
          (λ v. rw (mapped_more (λ (t : TapeTerms). words_at v old t.words) tapes (tapes_at v old tapes) i tape refl c.loop-candidate-test.true, ← c.candidate-item.is) at (c.loop-candidate.invariant.rest v));
    }

pub returns-clause-made : goal.returns-clause-made
returns-clause-made c =
    let bounds = c.args.trial.now.bounds.now in
    let layout = c.args.trial.now.layout.now in
    let old = c.args.terms.now in
    let f = c.args.trial.now.source.now.of.now in
    let tapes = c.args.candidates.now in
    record {
      within = c.loop-candidate.invariant.goal.within;
      wide = c.loop-candidate.invariant.goal.wide;
      says = λ v.
          tried_all (bit_at v c.loop-candidate.terms c.loop-candidate.goal)
          (bit_at v old c.args.goal && none_allows f bounds (input_in layout v old c.args.trial.now.input.now) (outcome_in layout v old c.args.trial.now.target.now) (tapes_at v old tapes))
          f bounds (input_in layout v old c.args.trial.now.input.now) (outcome_in layout v old c.args.trial.now.target.now) (drop c.loop-candidate.candidate-index (tapes_at v old tapes))
          (tapes_behind v old tapes c.loop-candidate.candidate-index c.loop-candidate-test.false) (c.loop-candidate.invariant.rest v);
    }
