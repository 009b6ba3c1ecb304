use Rattle.ir_tree.proofs.Common.{◌≡◌, ◌++◌, map, drop, block_of}
use Rattle.ir_tree.proofs.flow.BlockIndex.places.Given as goal

abbrev pub invariant-loop-label : goal.invariant-loop-label
invariant-loop-label l = l.places ++ map (block_of l.f) (drop l.label-index l.labels) ≡ map (block_of l.f) l.labels
