use Rattle.slow_judge.proofs.Common.{◌-◌, length, IsReady}
use Rattle.slow_judge.proofs.Growing.{IsGrown}
use Rattle.slow_judge.proofs.judge.grow.Given as goal

abbrev pub invariant-loop-tapes : goal.invariant-loop-tapes
invariant-loop-tapes l = record {
  grown : IsGrown l.pair l.bounds l.budget l.tapes.items;
  ready : IsReady l.pair l.bounds l.bench;
}

abbrev pub decreases-loop-tapes : goal.decreases-loop-tapes
decreases-loop-tapes l = l.budget.rounds - length l.tapes.items
