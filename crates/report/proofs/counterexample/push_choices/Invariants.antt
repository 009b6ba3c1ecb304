use Rattle.std.proofs.Common.{◌≡◌, drop, ◌++◌}
use Rattle.report.specs.Text.{choice_lines}
use Rattle.report.proofs.counterexample.push_choices.Given as goal

abbrev pub invariant-loop-place : goal.invariant-loop-place
invariant-loop-place l = l.out.items ++ choice_lines l.place (drop l.place l.words) ≡ l.fn.out.items ++ choice_lines 0 l.words
