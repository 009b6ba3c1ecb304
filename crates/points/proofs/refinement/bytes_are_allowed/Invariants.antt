use Rattle.points.proofs.Common.{◌≡◌, drop, byte_allows, pairs_pass}
use Rattle.points.proofs.refinement.bytes_are_allowed.Given as goal

abbrev pub invariant-loop-i : goal.invariant-loop-i
invariant-loop-i l = pairs_pass byte_allows l.source l.target ≡ pairs_pass byte_allows (drop l.i l.source) (drop l.i l.target)
