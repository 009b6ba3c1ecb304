use Rattle.memory_access.proofs.Common.{refl, sym, names}
use Rattle.memory_access.proofs.Found.{first_at, find-none}
use Rattle.memory_access.proofs.accesses.load.Goals as goal

pub get-requires : goal.get-requires
get-requires c = (first_at (names c.in-Ptr.pointer.block) c.args.memory.now c.in-Some.i (sym (rw c.as_slice.ensures at c.in-Some.ensures))).within

pub returns-in-Some : goal.returns-in-Some
returns-in-Some c =
    let first = first_at (names c.in-Ptr.pointer.block) c.args.memory.now c.in-Some.i (sym (rw c.as_slice.ensures at c.in-Some.ensures)) in
    rw (c.load_in.ensures, c.in-Ptr.is, first.found c.get.result.now c.get.ensures) refl

pub returns-in-None : goal.returns-in-None
returns-in-None c = rw (c.in-Ptr.is, find-none (names c.in-Ptr.pointer.block) c.args.memory.now 0 (sym (rw c.as_slice.ensures at c.in-None.ensures))) refl
