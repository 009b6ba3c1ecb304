use Rattle.choice_interp.proofs.Common.{◌≡◌, drop, list_any, Given, names}
use Rattle.choice_interp.proofs.choosing.has_given.Given as goal

abbrev pub invariant-loop-block : goal.invariant-loop-block
invariant-loop-block l = list_any (names (Given l.n)) l.memory ≡ list_any (names (Given l.n)) (drop l.block-index l.memory)
