use Rattle.std.proofs.Common.{◌≡◌, ◌++◌, drop}
use Rattle.unroll.specs.Layers.{layer_of}
use Rattle.unroll.proofs.copying.push_layer.Given as goal

abbrev pub invariant-loop-at : goal.invariant-loop-at
invariant-loop-at l = l.copies.items ++ layer_of l.layer.turns l.layer.blocks l.layer.turn l.at (drop l.at l.graph) ≡ l.fn.copies.items ++ layer_of l.layer.turns l.layer.blocks l.layer.turn 0 l.graph
