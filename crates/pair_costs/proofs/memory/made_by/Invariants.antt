use Rattle.std.proofs.Common.{◌≡◌, ◌≤◌, ◌+◌, sum_by, drop}
use Rattle.verdicts.specs.Weight.{made_in}
use Rattle.pair_costs.proofs.Sizes.{size_of}
use Rattle.pair_costs.proofs.memory.made_by.Given as goal

abbrev pub invariant-loop-block : goal.invariant-loop-block
invariant-loop-block l = record {
  blocks : l.block-items ≡ l.f.blocks;
  total : l.total + sum_by made_in (drop l.block-index l.f.blocks) ≡ sum_by made_in l.f.blocks;
  small : sum_by size_of (drop l.block-index l.f.blocks) ≤ 65536;
}
