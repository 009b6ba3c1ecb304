use Rattle.undef_uses.specs.Counts.{IsCounting}
use Rattle.undef_uses.proofs.CountLemmas.{steps_left}
use Rattle.undef_uses.proofs.counting.settle.Given as goal

abbrev pub invariant-loop-name : goal.invariant-loop-name
invariant-loop-name l = IsCounting l.table l.counts.items l.waiting.items

abbrev pub decreases-loop-name : goal.decreases-loop-name
decreases-loop-name l = steps_left l.users l.counts.items l.waiting.items
