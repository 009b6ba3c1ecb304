use Rattle.std.proofs.Common.{◌≡◌, ◌++◌, map, drop}
use Rattle.unroll.specs.Layers.{edge_to}
use Rattle.unroll.proofs.copying.edges.Given as goal

abbrev pub invariant-loop-to : goal.invariant-loop-to
invariant-loop-to l = l.edges.items ++ map (edge_to l.layer.turns l.layer.blocks l.layer.turn l.at) (drop l.to-index l.places) ≡ map (edge_to l.layer.turns l.layer.blocks l.layer.turn l.at) l.places
