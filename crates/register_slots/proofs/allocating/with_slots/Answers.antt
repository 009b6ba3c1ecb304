use Rattle.register_slots.proofs.StandIn.{stand_in-found}
use Rattle.register_slots.proofs.allocating.with_slots.Goals as goal

pub returns : goal.returns
returns c = stand_in-found c.args.f.now c.in_ok-slotted.slotted c.in_ok-slotted.ensures
