use Rattle.std.proofs.Common.{◌≡◌, max, drop}
use Rattle.std.specs.List.{flat_map}
use Rattle.points.specs.Tapes.{inst_widths, widest}
use Rattle.pair_costs.proofs.widest.widest_in_block.Given as goal

abbrev pub invariant-loop-inst : goal.invariant-loop-inst
invariant-loop-inst l = record {
  insts : l.inst-items ≡ l.block.insts;
  rest : max l.best.bits (widest (flat_map inst_widths (drop l.inst-index l.block.insts))) ≡ max l.fn.best.bits (widest (flat_map inst_widths l.block.insts));
}
