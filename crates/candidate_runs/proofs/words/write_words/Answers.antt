use Rattle.candidate_runs.proofs.Common.{arith, length-set, function_of}
use Rattle.candidate_runs.proofs.Listed.{words_more}
use Rattle.candidate_runs.proofs.words.write_words.Goals as goal

pub loop-i-preserved : goal.loop-i-preserved
loop-i-preserved c = record {
  same_length = rw (c.set.ensures, length-set) c.loop-i.invariant.same_length;
  done = rw c.set.ensures (words_more c.loop-i.words c.loop-i.i c.word_at.result (function_of c.args.numbers.now c.args.tape.now c.args.candidate) (omega arith) c.loop-i.invariant.done c.word_at.ensures);
}
