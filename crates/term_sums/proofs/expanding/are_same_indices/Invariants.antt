use Rattle.std.specs.Prelude.{◌≡◌, take}
use Rattle.term_sums.proofs.expanding.are_same_indices.Given as goal

abbrev pub invariant-loop-index : goal.invariant-loop-index
invariant-loop-index l = take l.index l.a ≡ take l.index l.b
