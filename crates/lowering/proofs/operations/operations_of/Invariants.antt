use Rattle.std.proofs.Common.{◌≡◌, ◌≤◌, length, drop}
use Rattle.lowering.specs.Operations.{AreOperations}
use Rattle.lowering.proofs.OperationLemmas.{insts_in}
use Rattle.lowering.proofs.operations.operations_of.Given as goal

abbrev pub invariant-loop-at : goal.invariant-loop-at
invariant-loop-at l = record {
  blocks : l.blocks ≡ l.f.blocks;
  within : l.at ≤ length l.f.blocks;
  long : length l.table.items ≡ length l.f.names;
  operations : AreOperations (insts_in (drop l.at l.f.blocks)) l.table.items;
}
