use Rattle.ir_tree.proofs.Common.{◌≡◌, ◌++◌, map, drop}
use Rattle.ir_tree.proofs.Indexing.{places_of}
use Rattle.ir_tree.proofs.flow.successors.Given as goal

abbrev pub invariant-loop-block : goal.invariant-loop-block
invariant-loop-block l = record {
  blocks : l.block-items ≡ l.f.blocks;
  graph : l.graph ++ map (places_of l.f) (drop l.block-index l.f.blocks) ≡ map (places_of l.f) l.f.blocks;
}
