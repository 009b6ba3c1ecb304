use Rattle.ir_lexer.proofs.Common.{length, drop, ◌≡◌, ◌≤◌, ◌+◌, ◌-◌, name_run}
use Rattle.ir_lexer.proofs.parts.name_run.Given as goal

abbrev pub invariant-loop-run : goal.invariant-loop-run
invariant-loop-run l = record {
  within : l.run ≤ length l.text;
  run : l.run + name_run (drop l.run l.text) ≡ name_run l.text;
}

abbrev pub decreases-loop-run : goal.decreases-loop-run
decreases-loop-run l = length l.text - l.run
