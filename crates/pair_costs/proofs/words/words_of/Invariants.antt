use Rattle.std.proofs.Common.{◌≡◌, ◌+◌, sum_by, drop}
use Rattle.pair_costs.proofs.Sizes.{block_words}
use Rattle.pair_costs.proofs.words.words_of.Given as goal

abbrev pub invariant-loop-block : goal.invariant-loop-block
invariant-loop-block l = record {
  blocks : l.block-items ≡ l.f.blocks;
  total : l.total + sum_by block_words (drop l.block-index l.f.blocks) ≡ sum_by block_words l.f.blocks;
}
