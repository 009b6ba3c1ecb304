use Rattle.definite_assignment.proofs.Common.{take, IsLeaving}
use Rattle.definite_assignment.proofs.name_set.NameSet.fill.Given as goal

abbrev pub invariant-loop-name : goal.invariant-loop-name
invariant-loop-name l = IsLeaving l.set (take l.name-index l.assigned) l.self
