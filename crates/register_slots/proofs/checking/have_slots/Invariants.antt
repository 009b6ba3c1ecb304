use Rattle.register_slots.proofs.Common.{AllByRecursion, drop, HasSlot}
use Rattle.register_slots.proofs.checking.have_slots.Given as goal

abbrev pub invariant-loop-name : goal.invariant-loop-name
invariant-loop-name l = AllByRecursion (HasSlot l.slots l.names l.count) (drop l.name-index l.parameters) → AllByRecursion (HasSlot l.slots l.names l.count) l.parameters
