use Rattle.std.proofs.Common.{◌≡◌, ◌++◌, ◌+◌, ◌-◌, length}
use Rattle.unroll.specs.Layers.{layers_of}
use Rattle.unroll.proofs.copying.copies_for.Given as goal

abbrev pub invariant-loop-turn : goal.invariant-loop-turn
invariant-loop-turn l = l.copies.items ++ layers_of l.turns (length l.graph) l.graph l.turn (l.turns + 1 - l.turn) ≡ layers_of l.turns (length l.graph) l.graph 0 (l.turns + 1)
