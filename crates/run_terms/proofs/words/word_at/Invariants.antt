-- The word so far is the one among the first words of the tape.
use Rattle.run_terms.proofs.Common.{take, slice_index, Keeps, Makes, term_at, words_at}
use Rattle.run_terms.proofs.words.word_at.Given as goal

abbrev pub invariant-loop-i : goal.invariant-loop-i
invariant-loop-i l =
    Keeps l.fn.terms l.terms
    × Makes l.terms l.word 64 (λ v. slice_index (take l.i (words_at v l.fn.terms l.words)) (term_at v l.fn.terms l.place))
