use Rattle.std.proofs.Common.{◌≡◌, take}
use Rattle.byte_block.proofs.block.copy_memory.Given as goal

abbrev pub invariant-loop-block : goal.invariant-loop-block
invariant-loop-block l = l.blocks.items ≡ take l.block-index l.memory
