-- The tests so far are those of both.
use Rattle.run_terms.proofs.Common.{◌≡◌, ◌≤◌, ◌-◌, length, take}
use Rattle.run_terms.proofs.paths.common_length.Given as goal

abbrev pub invariant-loop-n : goal.invariant-loop-n
invariant-loop-n l = record {
  within : l.n ≤ length l.a;
  other : l.n ≤ length l.b;
  same : take l.n l.a ≡ take l.n l.b;
}

abbrev pub decreases-loop-n : goal.decreases-loop-n
decreases-loop-n l = length l.a - l.n
