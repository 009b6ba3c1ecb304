-- Those so far and those that are left.
use Rattle.candidate_runs.proofs.Common.{◌≡◌, ◌≤◌, ◌+◌, drop, integer_count}
use Rattle.candidate_runs.proofs.candidate.integer_count.Given as goal

abbrev pub invariant-loop-parameter : goal.invariant-loop-parameter
invariant-loop-parameter l = record {
  within : l.count ≤ l.parameter-index;
  all : l.count + integer_count (drop l.parameter-index l.parameters) ≡ integer_count l.parameters;
}
