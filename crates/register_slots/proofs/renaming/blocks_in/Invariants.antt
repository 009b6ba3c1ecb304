use Rattle.register_slots.proofs.Common.{◌≡◌, ◌++◌, map, drop, block_in}
use Rattle.register_slots.proofs.renaming.blocks_in.Given as goal

abbrev pub invariant-loop-block : goal.invariant-loop-block
invariant-loop-block l = l.renamed ++ map (block_in l.slots) (drop l.block-index l.blocks) ≡ map (block_in l.slots) l.blocks
