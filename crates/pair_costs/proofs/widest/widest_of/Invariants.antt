use Rattle.std.proofs.Common.{◌≡◌, max, drop}
use Rattle.std.specs.List.{flat_map}
use Rattle.points.specs.Tapes.{block_widths, widest}
use Rattle.pair_costs.proofs.widest.widest_of.Given as goal

abbrev pub invariant-loop-block : goal.invariant-loop-block
invariant-loop-block l = record {
  blocks : l.block-items ≡ l.f.blocks;
  rest : max l.best.bits (widest (flat_map block_widths (drop l.block-index l.f.blocks))) ≡ widest (flat_map block_widths l.f.blocks);
}
