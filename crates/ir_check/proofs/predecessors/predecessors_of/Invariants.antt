use Rattle.ir_check.proofs.Common.{◌≡◌, length, take, ArePredecessors}
use Rattle.ir_check.proofs.predecessors.predecessors_of.Given as goal

abbrev pub invariant-loop-block : goal.invariant-loop-block
invariant-loop-block l = record {
  len : length l.table ≡ length l.f.names;
  each : ArePredecessors (take l.block-index l.f.blocks) l.table;
}
