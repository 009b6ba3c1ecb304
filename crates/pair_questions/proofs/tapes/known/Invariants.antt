-- The words so far are the tape's first ones.
use Rattle.pair_questions.proofs.Common.{ℕ, ◌≡◌, take, Keeps, AreWords, words_at}
use Rattle.pair_questions.proofs.tapes.known.Given as goal

abbrev pub invariant-loop-word : goal.invariant-loop-word
invariant-loop-word l = record {
  kept : Keeps l.fn.terms l.terms;
  are : AreWords l.terms l.tape.items;
  stands : (v : ℕ → ℕ → ℕ) → words_at v l.terms l.tape.items ≡ take l.word-index l.words;
}
