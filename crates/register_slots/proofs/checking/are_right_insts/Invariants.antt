use Rattle.register_slots.proofs.Common.{◌≡◌, drop, AreRightInsts, held_after}
use Rattle.register_slots.proofs.checking.are_right_insts.Given as goal

abbrev pub invariant-loop-inst : goal.invariant-loop-inst
invariant-loop-inst l = record {
  right : AreRightInsts l.slots l.names l.held (drop l.inst-index l.insts) → AreRightInsts l.slots l.names l.fn.held l.insts;
  held : held_after l.slots (drop l.inst-index l.insts) l.held ≡ held_after l.slots l.insts l.fn.held;
}
