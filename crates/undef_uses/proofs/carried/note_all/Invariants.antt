use Rattle.std.proofs.Common.{◌≡◌, ◌≤◌, ◌++◌, List, length, drop}
use Rattle.ir_tree.specs.declared.tree.Inst.{Inst}
use Rattle.undef_uses.specs.Counts.{AreCarried}
use Rattle.undef_uses.proofs.carried.note_all.Given as goal

abbrev pub invariant-loop-place : goal.invariant-loop-place
invariant-loop-place l = record {
  within : l.place ≤ length l.insts;
  long : length l.table ≡ length l.fn.table;
  carried : (rest : List Inst) → AreCarried rest l.fn.table → AreCarried (drop l.place l.insts ++ rest) l.table;
}
