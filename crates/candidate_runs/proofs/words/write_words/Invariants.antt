use Rattle.candidate_runs.proofs.Common.{◌≡◌, take, length, words_of, function_of}
use Rattle.candidate_runs.proofs.words.write_words.Given as goal

abbrev pub invariant-loop-i : goal.invariant-loop-i
invariant-loop-i l = record {
  same_length : length l.words ≡ length l.fn.words;
  done : take l.i l.words ≡ words_of l.i (function_of l.numbers l.tape l.candidate);
}
