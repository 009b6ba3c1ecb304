use Rattle.ir_check.proofs.Common.{take}
use Rattle.ir_check.proofs.PredecessorLemmas.{HaveAdded}
use Rattle.ir_check.proofs.predecessors.add_predecessor.Given as goal

abbrev pub invariant-loop-target : goal.invariant-loop-target
invariant-loop-target l = HaveAdded l.fn.table l.table l.label (take l.target-index l.targets)
