use Rattle.memory_access.proofs.Common.{◌≡◌, ◌<◌, ◌^◌, drop, pos, wrapped, last_sum}
use Rattle.memory_access.proofs.offsets.offset_after.Given as goal

abbrev pub invariant-loop-index : goal.invariant-loop-index
invariant-loop-index l = record {
  same : wrapped 64 (last_sum (pos l.offset) l.indices) ≡ wrapped 64 (last_sum (pos l.sum) (drop l.index-index l.indices));
  fits : l.sum < 2 ^ 64;
}
