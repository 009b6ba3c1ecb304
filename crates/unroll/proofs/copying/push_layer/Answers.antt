use Rattle.std.proofs.Common.{◌∙◌, arith}
use Rattle.unroll.proofs.Copies.{copy_joins, layer_done}
use Rattle.unroll.proofs.copying.push_layer.Goals as goal

pub loop-at-preserved : goal.loop-at-preserved
loop-at-preserved c =
    let layer = c.args.layer in
    copy_joins layer.turns layer.blocks layer.turn c.loop-at.at c.args.graph.now c.index-graph-at.result c.as_slice.result.now c.from_vec.result c.loop-at.copies.items c.push.new.self.items _
    c.loop-at-test.true c.index-graph-at.is c.as_slice.ensures (c.from_vec.ensures ∙ c.in_ok-edges.ensures) c.in_ok-push.ensures.items c.loop-at.invariant

pub returns : goal.returns
returns c =
    let layer = c.args.layer in
    layer_done layer.turns layer.blocks layer.turn c.loop-at.at c.args.graph.now c.loop-at.copies.items _ (omega arith) c.loop-at.invariant
