use Rattle.std.specs.Prelude.{◌≡◌, take}
use Rattle.term_sums.proofs.monomials.are_same.Given as goal

abbrev pub invariant-loop-index : goal.invariant-loop-index
invariant-loop-index l = take l.index l.a ≡ take l.index l.b
