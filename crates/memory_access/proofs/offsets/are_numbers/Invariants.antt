use Rattle.memory_access.proofs.Common.{◌≡◌, drop, list_all, is_index}
use Rattle.memory_access.proofs.offsets.are_numbers.Given as goal

abbrev pub invariant-loop-index : goal.invariant-loop-index
invariant-loop-index l = list_all is_index l.indices ≡ list_all is_index (drop l.index-index l.indices)
