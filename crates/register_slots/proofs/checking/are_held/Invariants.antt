use Rattle.register_slots.proofs.Common.{AllByRecursion, drop, IsHeld}
use Rattle.register_slots.proofs.checking.are_held.Given as goal

abbrev pub invariant-loop-name : goal.invariant-loop-name
invariant-loop-name l = AllByRecursion (IsHeld l.slots l.held) (drop l.name-index l.names) → AllByRecursion (IsHeld l.slots l.held) l.names
