-- The tapes so far are those of the candidates so far.
use Rattle.pair_questions.proofs.Common.{ℕ, take, Keeps, words_at, AreSameTapes, AreTapes, tapes_at, words_of_each}
use Rattle.pair_questions.proofs.candidates.candidate_tapes.Given as goal

abbrev pub invariant-loop-candidate : goal.invariant-loop-candidate
invariant-loop-candidate l = record {
  kept : Keeps l.fn.terms l.terms;
  are : AreTapes l.terms l.tapes.items;
  same : (v : ℕ → ℕ → ℕ) → AreSameTapes (tapes_at v l.terms l.tapes.items) (words_of_each l.need (words_at v l.fn.terms l.numbers) (words_at v l.fn.terms l.words) (take l.candidate-index l.candidates));
}
