use Rattle.memory_access.proofs.Common.{◌≡◌, drop, list_any, is_negative}
use Rattle.memory_access.proofs.offsets.has_negative.Given as goal

abbrev pub invariant-loop-index : goal.invariant-loop-index
invariant-loop-index l = list_any is_negative l.indices ≡ list_any is_negative (drop l.index-index l.indices)
