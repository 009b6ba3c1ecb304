use Rattle.std.proofs.Common.{◌≡◌, ◌++◌, drop}
use Rattle.trace_text.specs.TraceText.{choice_notes}
use Rattle.trace_text.proofs.notes.push_choices.Given as goal

abbrev pub invariant-loop-word : goal.invariant-loop-word
invariant-loop-word l = l.out.items ++ choice_notes l.index (drop l.word-index l.words) ≡ l.fn.out.items ++ choice_notes l.fn.first l.words
