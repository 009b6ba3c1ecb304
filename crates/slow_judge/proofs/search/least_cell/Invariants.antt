use Rattle.slow_judge.proofs.Common.{◌-◌, place_in, IsCell, IsReady}
use Rattle.slow_judge.proofs.Order.{places_in}
use Rattle.slow_judge.proofs.Searching.{IsReached}
use Rattle.slow_judge.proofs.search.least_cell.Given as goal

abbrev pub invariant-loop-point : goal.invariant-loop-point
invariant-loop-point l = record {
  reached : IsReached (IsCell l.pair l.bounds) l.pair l.bounds l.tapes l.point;
  ready : IsReady l.pair l.bounds l.bench;
}

abbrev pub decreases-loop-point : goal.decreases-loop-point
decreases-loop-point l = places_in l.pair l.bounds - place_in l.pair l.bounds l.point
