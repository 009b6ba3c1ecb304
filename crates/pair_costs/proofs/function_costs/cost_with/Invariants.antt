use Rattle.std.proofs.Common.{◌≡◌, ◌≤◌, ◌+◌, sum_by, drop}
use Rattle.verdicts.specs.Weight.{block_cost}
use Rattle.pair_costs.proofs.Sizes.{size_of}
use Rattle.pair_costs.proofs.function_costs.cost_with.Given as goal

abbrev pub invariant-loop-block : goal.invariant-loop-block
invariant-loop-block l = record {
  blocks : l.block-items ≡ l.trees.f.now.blocks;
  total : l.total + sum_by (block_cost l.trees.f.now l.memory) (drop l.block-index l.trees.f.now.blocks) ≡ sum_by (block_cost l.trees.f.now l.memory) l.trees.f.now.blocks;
  small : sum_by size_of (drop l.block-index l.trees.f.now.blocks) ≤ 65536;
}
