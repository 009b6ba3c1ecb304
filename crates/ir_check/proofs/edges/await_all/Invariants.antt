use Rattle.ir_check.proofs.Common.{◌≡◌, [], length, take, IrType, AreMarked}
use Rattle.ir_check.proofs.edges.await_all.Given as goal

abbrev pub invariant-loop-label : goal.invariant-loop-label
invariant-loop-label l = record {
  marks : length l.marks ≡ length l.fn.marks;
  marked : (of_type : IrType) → AreMarked (take l.label-index l.predecessors) of_type [] l.marks;
}
