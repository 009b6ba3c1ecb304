-- The words so far are those of the candidate.
use Rattle.pair_questions.proofs.Common.{ℕ, ◌≡◌, ◌≤◌, words_of, function_of, Keeps, Makes, AreWords, words_at}
use Rattle.pair_questions.proofs.tapes.candidate_tape.Given as goal

abbrev pub invariant-loop-place : goal.invariant-loop-place
invariant-loop-place l = record {
  kept : Keeps l.fn.terms l.terms;
  within : l.place ≤ l.need;
  zero : Makes l.terms l.zero 64 (λ _. 0);
  are : AreWords l.terms l.tape.items;
  stands : (v : ℕ → ℕ → ℕ) → words_at v l.terms l.tape.items ≡ words_of l.place (function_of (words_at v l.fn.terms l.numbers) (words_at v l.fn.terms l.words) l.candidate);
}
