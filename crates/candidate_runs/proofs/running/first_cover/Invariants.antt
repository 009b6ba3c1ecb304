-- The candidates so far don't cover the point.
use Rattle.candidate_runs.proofs.Common.{◌≡◌, drop, integers, some_covers, tapes_of}
use Rattle.candidate_runs.specs.Candidates.{AreTries}
use Rattle.candidate_runs.proofs.running.first_cover.Given as goal

abbrev pub invariant-loop-i : goal.invariant-loop-i
invariant-loop-i l = record {
  ready : AreTries l.pair l.bounds l.tries;
  numbers : l.tries.numbers.items ≡ integers l.pair.target.parameters l.point.input.args;
  none : some_covers l.pair l.bounds l.point (tapes_of l.pair l.bounds l.point l.candidates) ≡ some_covers l.pair l.bounds l.point (tapes_of l.pair l.bounds l.point (drop l.i l.candidates));
}
