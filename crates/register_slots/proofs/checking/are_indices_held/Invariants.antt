use Rattle.register_slots.proofs.Common.{drop, map, GepIndex, AreReadHeld}
use Rattle.register_slots.proofs.checking.are_indices_held.Given as goal

abbrev pub invariant-loop-index : goal.invariant-loop-index
invariant-loop-index l = AreReadHeld l.slots l.held (map (λ (i : GepIndex). i.operand) (drop l.index-index l.indices)) → AreReadHeld l.slots l.held (map (λ (i : GepIndex). i.operand) l.indices)
