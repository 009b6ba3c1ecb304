use Rattle.ir_tree.proofs.Common.{map, block_of}
use Rattle.ir_tree.proofs.Indexing.{mapped_more}
use Rattle.ir_tree.proofs.flow.BlockIndex.places.Goals as goal

pub loop-label-preserved : goal.loop-label-preserved
loop-label-preserved c =
    rw c.in_ok-push.ensures.ok (mapped_more (block_of c.args.f.now) c.args.labels.now c.loop-label.label-index c.loop-label.places (map (block_of c.args.f.now) c.args.labels.now) c.place.result c.loop-label-test.true c.place.ensures c.loop-label.invariant)
