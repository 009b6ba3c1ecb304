use Rattle.std.proofs.Common.{◌≡◌, ◌+◌, sum_by, drop}
use Rattle.verdicts.specs.Weight.{made_bytes}
use Rattle.pair_costs.proofs.memory.made_by_block.Given as goal

abbrev pub invariant-loop-inst : goal.invariant-loop-inst
invariant-loop-inst l = record {
  insts : l.inst-items ≡ l.block.insts;
  total : l.total + sum_by made_bytes (drop l.inst-index l.block.insts) ≡ sum_by made_bytes l.block.insts;
}
