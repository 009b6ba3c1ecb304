use Rattle.memory_access.proofs.Common.{◌≡◌, true, false, Some, refl, sym, names, access_size, value_bytes, admits, overwritten}
use Rattle.memory_access.proofs.Found.{first_at, find-none}
use Rattle.memory_access.proofs.accesses.store.Goals as goal

pub returns-in-None-clause-outcome : goal.returns-in-None-clause-outcome
returns-in-None-clause-outcome c = rw (c.in-Ptr.is, find-none (names c.in-Ptr.pointer.block) c.args.memory.now 0 (sym (rw c.as_slice.ensures at c.in-None.ensures))) refl

pub returns-in-None-clause-after : goal.returns-in-None-clause-after
returns-in-None-clause-after c = rw (c.in-Ptr.is, find-none (names c.in-Ptr.pointer.block) c.args.memory.now 0 (sym (rw c.as_slice.ensures at c.in-None.ensures))) refl

pub get-requires : goal.get-requires
get-requires c = (first_at (names c.in-Ptr.pointer.block) c.args.memory.now c.in-Some.i (sym (rw c.as_slice.ensures at c.in-Some.ensures))).within

pub get_mut-block-requires : goal.get_mut-block-requires
get_mut-block-requires c = (first_at (names c.in-Ptr.pointer.block) c.args.memory.now c.in-Some.i (sym (rw c.as_slice.ensures at c.in-Some.ensures))).within

pub returns-then-not-is_admitted-clause-outcome : goal.returns-then-not-is_admitted-clause-outcome
returns-then-not-is_admitted-clause-outcome c =
    let first = first_at (names c.in-Ptr.pointer.block) c.args.memory.now c.in-Some.i (sym (rw c.as_slice.ensures at c.in-Some.ensures)) in
    let refused : admits (Some c.get.result.now) c.in-Ptr.pointer.offset (access_size c.args.access) c.args.align ≡ false =
    rw (← c.size_of.ensures.value, ← c.is_admitted.ensures) c.if-not-is_admitted.true in
    rw (c.in-Ptr.is, first.found c.get.result.now c.get.ensures, refused) refl

pub returns-then-not-is_admitted-clause-after : goal.returns-then-not-is_admitted-clause-after
returns-then-not-is_admitted-clause-after c =
    let first = first_at (names c.in-Ptr.pointer.block) c.args.memory.now c.in-Some.i (sym (rw c.as_slice.ensures at c.in-Some.ensures)) in
    let refused : admits (Some c.get.result.now) c.in-Ptr.pointer.offset (access_size c.args.access) c.args.align ≡ false =
    rw (← c.size_of.ensures.value, ← c.is_admitted.ensures) c.if-not-is_admitted.true in
    rw (c.in-Ptr.is, first.found c.get.result.now c.get.ensures, refused) refl

pub returns-clause-outcome : goal.returns-clause-outcome
returns-clause-outcome c =
    let first = first_at (names c.in-Ptr.pointer.block) c.args.memory.now c.in-Some.i (sym (rw c.as_slice.ensures at c.in-Some.ensures)) in
    let admitted : admits (Some c.get.result.now) c.in-Ptr.pointer.offset (access_size c.args.access) c.args.align ≡ true =
    rw (← c.size_of.ensures.value, ← c.is_admitted.ensures) c.if-not-is_admitted.false in
    rw (c.in-Ptr.is, first.found c.get.result.now c.get.ensures, admitted) refl

pub returns-clause-after : goal.returns-clause-after
returns-clause-after c =
    let first = first_at (names c.in-Ptr.pointer.block) c.args.memory.now c.in-Some.i (sym (rw c.as_slice.ensures at c.in-Some.ensures)) in
    let admitted : admits (Some c.get.result.now) c.in-Ptr.pointer.offset (access_size c.args.access) c.args.align ≡ true =
    rw (← c.size_of.ensures.value, ← c.is_admitted.ensures) c.if-not-is_admitted.false in
    let changed = first.changed (overwritten (value_bytes c.args.access c.args.value) c.in-Ptr.pointer.offset) c.get_mut-block.result.now c.get_mut-block.ensures.value in
    rw (c.in-Ptr.is, first.found c.get.result.now c.get.ensures, admitted) (rw c.write_value.ensures (sym changed))
