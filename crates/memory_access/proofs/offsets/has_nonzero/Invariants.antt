use Rattle.memory_access.proofs.Common.{◌≡◌, drop, list_any, is_nonzero}
use Rattle.memory_access.proofs.offsets.has_nonzero.Given as goal

abbrev pub invariant-loop-index : goal.invariant-loop-index
invariant-loop-index l = list_any is_nonzero l.indices ≡ list_any is_nonzero (drop l.index-index l.indices)
