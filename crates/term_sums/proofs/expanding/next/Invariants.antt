use Rattle.std.specs.Prelude.{◌<◌, IfSome, length}
use Rattle.term_sums.proofs.expanding.next.Given as goal

abbrev pub invariant-loop-index : goal.invariant-loop-index
invariant-loop-index l = IfSome l.found (λ i. i < length l.work)
