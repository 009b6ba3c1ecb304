use Rattle.memory_access.proofs.Common.{◌≡◌, ◌≤◌, drop, leaves_block}
use Rattle.memory_access.proofs.offsets.leaves.Given as goal

abbrev pub invariant-loop-index : goal.invariant-loop-index
invariant-loop-index l = record {
  same : leaves_block l.size l.offset l.indices ≡ leaves_block l.size l.sum (drop l.index-index l.indices);
  inside : l.sum ≤ l.size;
}
