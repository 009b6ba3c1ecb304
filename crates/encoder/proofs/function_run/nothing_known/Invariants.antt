use Rattle.encoder.proofs.Common.{◌≡◌, ◌≤◌, replicate, None}
use Rattle.encoder.proofs.function_run.nothing_known.Given as goal

abbrev pub invariant-loop : goal.invariant-loop
invariant-loop l = record {
  within : l.counter ≤ l.copies;
  made : l.ahead.items ≡ replicate l.counter None;
}
