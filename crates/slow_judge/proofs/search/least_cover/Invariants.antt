use Rattle.slow_judge.proofs.Common.{◌-◌, ◌^◌, number_of, need_of, IsReady}
use Rattle.slow_judge.proofs.TapeSearch.{IsTapeReached}
use Rattle.slow_judge.proofs.search.least_cover.Given as goal

abbrev pub invariant-loop-tape : goal.invariant-loop-tape
invariant-loop-tape l = record {
  reached : IsTapeReached l.pair l.bounds l.point l.tape;
  ready : IsReady l.pair l.bounds l.bench;
}

abbrev pub decreases-loop-tape : goal.decreases-loop-tape
decreases-loop-tape l = (2 ^ 64) ^ need_of l.bounds.turns l.pair.source - number_of l.tape
