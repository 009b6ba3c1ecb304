use Rattle.pair_questions.proofs.Integers.{IsRow}
use Rattle.pair_questions.proofs.tapes.integer_words.Given as goal

abbrev pub invariant-loop-arg : goal.invariant-loop-arg
invariant-loop-arg l = IsRow l.fn.terms l.terms l.args l.arg-index l.numbers.items
