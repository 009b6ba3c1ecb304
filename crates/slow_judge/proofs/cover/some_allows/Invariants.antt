use Rattle.slow_judge.proofs.Common.{◌≡◌, drop, some_covers}
use Rattle.choice_interp.specs.Runners.{IsRunner}
use Rattle.slow_judge.proofs.cover.some_allows.Given as goal

abbrev pub invariant-loop-tape : goal.invariant-loop-tape
invariant-loop-tape l = record {
  rest : some_covers l.pair l.bounds l.point l.tapes ≡ some_covers l.pair l.bounds l.point (drop l.tape-index l.tapes);
  ready : IsRunner l.pair.source l.runner;
}
