use Rattle.definite_assignment.proofs.Common.{take, IsSpread, state_of}
use Rattle.definite_assignment.proofs.work.Work.spread.Given as goal

abbrev pub invariant-loop-next : goal.invariant-loop-next
invariant-loop-next l = IsSpread (state_of l.initial.self) (state_of l.self) (take l.next-index l.nexts) l.leaving
