use Rattle.std.proofs.lemmas.Result.{IfOk-weaker}
use Rattle.register_slots.proofs.RightParts.{allocation_is}
use Rattle.register_slots.proofs.checking.is_allocation.Goals as goal

pub returns : goal.returns
returns c =
    let names = c.in_ok-names.names.items in
    let held = c.in_ok-held.held.items in
    let fit = rw (c.deref.ensures.value, c.len.ensures) at (c.have_slots.ensures c.if-not-have_slots.false) in
    let apart = rw (c.deref-3.ensures.value, c.deref-4.ensures.value) at (c.are_held.ensures c.if-not-are_held.false) in
    let entry = rw c.deref-5.ensures.value at (c.in_ok-is_right_entry.ensures c.if-not-branch.false) in
    let holds = rw c.deref-2.ensures.value at c.in_ok-held.ensures in
    IfOk-weaker c.has_right_blocks.result _ _ (λ yes all so. allocation_is c.args.f.now c.args.slots.now c.args.count c.args.lives.now names held c.in_ok-names.ensures holds fit apart entry (all so)) c.has_right_blocks.ensures
