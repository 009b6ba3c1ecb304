use Rattle.register_slots.proofs.checking.reads_held.Goals as goal

pub returns-then-is_read_held-4 : goal.returns-then-is_read_held-4
returns-then-is_read_held-4 c = λ yes.
    let here = c.is_read_held-in-GetElementPtr.ensures c.if-is_read_held-4.true in
    let there = rw c.as_slice.ensures at (c.are_indices_held.ensures yes) in
    rw c.in-GetElementPtr.is (here, there)
