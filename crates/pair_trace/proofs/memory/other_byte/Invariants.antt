use Rattle.std.proofs.Common.{◌≡◌, take, true}
use Rattle.points.specs.Refines.{byte_allows, pairs_pass}
use Rattle.pair_trace.proofs.memory.other_byte.Given as goal

abbrev pub invariant-loop-i : goal.invariant-loop-i
invariant-loop-i l = pairs_pass byte_allows (take l.i l.source) (take l.i l.target) ≡ true
