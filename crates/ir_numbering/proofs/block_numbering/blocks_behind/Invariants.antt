use Rattle.ir_numbering.proofs.Common.{◌≡◌, into_iter_items, labelled_in, each_in, others_in}
use Rattle.ir_numbering.proofs.Each.{in_front}
use Rattle.ir_numbering.proofs.block_numbering.blocks_behind.Given as goal

abbrev pub invariant-loop-one : goal.invariant-loop-one
invariant-loop-one l = others_in l.fn.first l.fn.names l.fn.others ≡ in_front l.numbered.items (each_in labelled_in l.names (into_iter_items l.one-iterator))
