use Rattle.register_slots.proofs.Common.{◌≡◌, drop, holding}
use Rattle.register_slots.proofs.checking.hold_all.Given as goal

abbrev pub invariant-loop-name : goal.invariant-loop-name
invariant-loop-name l = holding l.slots (drop l.name-index l.names) l.held ≡ holding l.slots l.names l.fn.held
