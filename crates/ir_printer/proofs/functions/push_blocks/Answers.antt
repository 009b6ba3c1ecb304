use Rattle.ir_printer.proofs.Common.{block_pieces}
use Rattle.ir_printer.proofs.Texts.{all_texts}
use Rattle.ir_printer.proofs.functions.push_blocks.Goals as goal

pub returns : goal.returns
returns c = all_texts (block_pieces c.args.names.now) c.args.blocks.now c.loop-block.block-index _ _ c.loop-block-test.false c.loop-block.invariant
