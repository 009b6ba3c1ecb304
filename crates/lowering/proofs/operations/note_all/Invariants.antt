use Rattle.std.proofs.Common.{◌≡◌, ◌≤◌, ◌++◌, List, length, drop}
use Rattle.ir_tree.specs.declared.tree.Inst.{Inst}
use Rattle.lowering.specs.Operations.{AreOperations}
use Rattle.lowering.proofs.operations.note_all.Given as goal

abbrev pub invariant-loop-at : goal.invariant-loop-at
invariant-loop-at l = record {
  within : l.at ≤ length l.insts;
  long : length l.table ≡ length l.fn.table;
  operations : (rest : List Inst) → AreOperations rest l.fn.table → AreOperations (drop l.at l.insts ++ rest) l.table;
}
