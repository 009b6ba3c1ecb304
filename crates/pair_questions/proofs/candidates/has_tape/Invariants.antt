-- None of the tapes so far has the words.
use Rattle.pair_questions.proofs.Common.{map, take, Contains, TapeTerms}
use Rattle.pair_questions.proofs.candidates.has_tape.Given as goal

abbrev pub invariant-loop-tape : goal.invariant-loop-tape
invariant-loop-tape l = Contains (map (λ (tape : TapeTerms). tape.words) (take l.tape-index l.tapes)) l.words → ⊥
