-- The goal so far and the candidates that are left are the goal before and all candidates.
use Rattle.pair_questions.proofs.Common.{ℕ, ◌≡◌, ◌&&◌, drop, IsTerm, Keeps, bit_at, input_in, none_allows, outcome_in, tapes_at}
use Rattle.pair_questions.proofs.goals.and_none.Given as goal

abbrev pub invariant-loop-candidate : goal.invariant-loop-candidate
invariant-loop-candidate l = record {
  kept : Keeps l.fn.terms l.terms;
  goal : IsTerm l.terms 1 l.goal;
  rest : (v : ℕ → ℕ → ℕ)
      → (bit_at v l.terms l.goal && none_allows l.trial.source.now.of.now l.trial.bounds.now (input_in l.trial.layout.now v l.fn.terms l.trial.input.now) (outcome_in l.trial.layout.now v l.fn.terms l.trial.target.now) (drop l.candidate-index (tapes_at v l.fn.terms l.candidates)))
      ≡ (bit_at v l.fn.terms l.fn.goal && none_allows l.trial.source.now.of.now l.trial.bounds.now (input_in l.trial.layout.now v l.fn.terms l.trial.input.now) (outcome_in l.trial.layout.now v l.fn.terms l.trial.target.now) (tapes_at v l.fn.terms l.candidates));
}
