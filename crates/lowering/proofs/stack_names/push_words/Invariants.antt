use Rattle.std.proofs.Common.{◌++◌}
use Rattle.lowering.specs.Lowered.{words_from}
use Rattle.lowering.proofs.NameLemmas.{HasWords}
use Rattle.lowering.proofs.stack_names.push_words.Given as goal

abbrev pub invariant-loop-word : goal.invariant-loop-word
invariant-loop-word l = HasWords (l.fn.names ++ words_from l.count l.first) l.names l.count l.first l.word
