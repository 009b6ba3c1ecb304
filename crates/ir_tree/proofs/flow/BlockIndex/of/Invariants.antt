use Rattle.ir_tree.proofs.Common.{◌≡◌, ◌≤◌, length}
use Rattle.ir_tree.proofs.Indexing.{IsIndexFrom}
use Rattle.ir_tree.proofs.flow.BlockIndex.of.Given as goal

abbrev pub invariant-loop-place : goal.invariant-loop-place
invariant-loop-place l = record {
  blocks : l.blocks ≡ l.f.blocks;
  within : l.place ≤ length l.f.blocks;
  index : IsIndexFrom l.f.blocks l.place l.places.entries;
}
