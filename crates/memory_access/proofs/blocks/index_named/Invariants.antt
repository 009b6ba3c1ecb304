use Rattle.memory_access.proofs.Common.{◌≡◌, drop, position_from, names}
use Rattle.memory_access.proofs.blocks.index_named.Given as goal

abbrev pub invariant-loop-i : goal.invariant-loop-i
invariant-loop-i l = position_from (names l.name) 0 l.blocks ≡ position_from (names l.name) l.i (drop l.i l.blocks)
