use Rattle.ir_check.proofs.Common.{◌≡◌, ℕ, List, [], length, take, AreMarked}
use Rattle.ir_check.proofs.edges.meet_all.Given as goal

abbrev pub invariant-loop-entry : goal.invariant-loop-entry
invariant-loop-entry l = record {
  marks : length l.marks ≡ length l.fn.marks;
  fit : (predecessors : List ℕ) → AreMarked predecessors l.of_type [] l.fn.marks → AreMarked predecessors l.of_type (take l.entry-index l.entries) l.marks;
}
