use Rattle.std.proofs.Common.{length, ◌+◌, sym, ◌∙◌, arith}
use Rattle.unroll.proofs.Copies.{no_layers, layer_joins, layers_done}
use Rattle.unroll.proofs.copying.copies_for.Goals as goal

pub returns-then-blocks-eq0 : goal.returns-then-blocks-eq0
returns-then-blocks-eq0 c = c.new-copies.ensures.items ∙ sym (no_layers c.args.turns (c.args.turns + 1) c.args.graph.now (let none = c.if-blocks-eq0.true in omega (arith, none)))

pub loop-turn-preserved : goal.loop-turn-preserved
loop-turn-preserved c =
    let below = c.loop-turn-test.true in
    let count = c.in_ok-count.ensures.count in
    layer_joins c.args.turns (length c.args.graph.now) c.loop-turn.turn (c.args.turns + 1) c.args.graph.now c.loop-turn.copies.items c.push_layer.new.copies.items _
    (omega (arith, below, count)) c.in_ok-push_layer.ensures c.loop-turn.invariant

pub returns : goal.returns
returns c =
    let count = c.in_ok-count.ensures.count in
    layers_done c.args.turns (length c.args.graph.now) c.loop-turn.turn (c.args.turns + 1) c.args.graph.now c.loop-turn.copies.items _ (omega (arith, count)) c.loop-turn.invariant
