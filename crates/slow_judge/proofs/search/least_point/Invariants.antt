use Rattle.slow_judge.proofs.Common.{◌-◌, IsOfShape, place_in, IsReady}
use Rattle.slow_judge.proofs.Order.{places_in}
use Rattle.slow_judge.proofs.Searching.{IsReached}
use Rattle.slow_judge.proofs.search.least_point.Given as goal

abbrev pub invariant-loop-point : goal.invariant-loop-point
invariant-loop-point l = record {
  reached : IsReached (IsOfShape l.shape) l.pair l.bounds l.tapes l.point;
  ready : IsReady l.pair l.bounds l.bench;
}

abbrev pub decreases-loop-point : goal.decreases-loop-point
decreases-loop-point l = places_in l.pair l.bounds - place_in l.pair l.bounds l.point
