use Rattle.ir_numbering.proofs.Common.{arith, block_places}
use Rattle.ir_numbering.proofs.Each.{flat-more}
use Rattle.ir_numbering.proofs.places.add_blocks.Goals as goal

pub loop-block-preserved : goal.loop-block-preserved
loop-block-preserved c = flat-more block_places c.args.blocks.now c.loop-block.block-index c.block-item.result c.loop-block.places c.add_block.new.places _ (omega arith) c.block-item.is c.in_ok-add_block.ensures c.loop-block.invariant
