use Rattle.ir_printer.proofs.Common.{index_pieces}
use Rattle.ir_printer.proofs.Texts.{all_texts}
use Rattle.ir_printer.proofs.accesses.push_indices.Goals as goal

pub returns : goal.returns
returns c = all_texts (index_pieces c.args.names.now) c.args.indices.now c.loop-index.index-index _ _ c.loop-index-test.false c.loop-index.invariant
