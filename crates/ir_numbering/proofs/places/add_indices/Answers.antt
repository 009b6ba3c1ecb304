use Rattle.ir_numbering.proofs.Common.{arith, index_places}
use Rattle.ir_numbering.proofs.Each.{flat-more}
use Rattle.ir_numbering.proofs.places.add_indices.Goals as goal

pub loop-index-preserved : goal.loop-index-preserved
loop-index-preserved c = flat-more index_places c.args.indices.now c.loop-index.index-index c.index-item.result c.loop-index.places c.add_three.new.places _ (omega arith) c.index-item.is c.in_ok-add_three.ensures c.loop-index.invariant
