use Rattle.points.proofs.Common.{◌≡◌, ◌++◌, map, drop, MemoryBlock}
use Rattle.points.proofs.codes.push_sizes.Given as goal

abbrev pub invariant-loop-block : goal.invariant-loop-block
invariant-loop-block l = l.code.items ++ map (λ (b : MemoryBlock). b.size) (drop l.block-index l.blocks) ≡ l.fn.code.items ++ map (λ (b : MemoryBlock). b.size) l.blocks
