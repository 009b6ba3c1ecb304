use Rattle.ir_printer.proofs.Common.{◌≡◌, drop, ◌++◌, ◌∷◌, flat_map, text_of, block_pieces}
use Rattle.ir_printer.proofs.functions.push_blocks.Given as goal

abbrev pub invariant-loop-block : goal.invariant-loop-block
invariant-loop-block l = l.out.items ++ flat_map (λ x. text_of (block_pieces l.names x)) (drop l.block-index l.blocks) ≡ l.fn.out.items ++ flat_map (λ x. text_of (block_pieces l.names x)) l.blocks
