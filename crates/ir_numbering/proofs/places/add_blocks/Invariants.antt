use Rattle.ir_numbering.proofs.Common.{◌≡◌, ◌++◌, drop, flat_map, block_places}
use Rattle.ir_numbering.proofs.places.add_blocks.Given as goal

abbrev pub invariant-loop-block : goal.invariant-loop-block
invariant-loop-block l = l.places ++ flat_map block_places (drop l.block-index l.blocks) ≡ l.fn.places ++ flat_map block_places l.blocks
