use Rattle.std.proofs.Common.{◌≡◌, length}
use Rattle.verdicts.specs.Pair.{same_types}
use Rattle.verdicts.proofs.pair.are_same_types.Given as goal

abbrev pub invariant-loop-sources : goal.invariant-loop-sources
invariant-loop-sources l = same_types l.sources l.targets ≡ same_types l.fn.source l.fn.target

abbrev pub decreases-loop-sources : goal.decreases-loop-sources
decreases-loop-sources l = length l.sources
