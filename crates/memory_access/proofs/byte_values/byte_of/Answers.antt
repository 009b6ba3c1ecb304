use Rattle.memory_access.proofs.Common.{◌≡◌, ◌+◌, Some, inl, inr, ap, arith, Part, Int, access_size}
use Rattle.memory_access.proofs.ByteLists.{number_bytes-get, parts_from-get, poison_bytes-get}
use Rattle.memory_access.proofs.byte_values.byte_of.Goals as goal

pub returns-in-Num : goal.returns-in-Num
returns-in-Num c =
    let within = rw c.in-Int.is at c.requires in
    rw (c.in-Int.is, c.in-Num.is, c.number_byte.ensures) (number_bytes-get (access_size (Int c.in-Int.width)) c.in-Num.number c.args.k within)

pub returns-in-Poison : goal.returns-in-Poison
returns-in-Poison c =
    let within = rw c.in-Int.is at c.requires in
    let byte = poison_bytes-get (access_size (Int c.in-Int.width)) c.in-Int.width.bits c.args.k within in
    elim c.in-Poison.is [
      | inl e ↦ rw (c.in-Int.is, e, c.poison_byte.ensures, c.bits.ensures) byte
      | inr e ↦ rw (c.in-Int.is, e.1, c.poison_byte.ensures, c.bits.ensures) byte
    ]

pub returns-in-Ptr : goal.returns-in-Ptr
returns-in-Ptr c =
    let within = rw c.in-Pointer.is at c.requires in
    let same : 0 + c.args.k ≡ c.args.k = omega arith in
    rw (c.in-Pointer.is, c.in-Ptr.is) (rw (parts_from-get c.in-Ptr.pointer 0 8 c.args.k within) (ap (λ j. Some (Part c.in-Ptr.pointer j)) same))

pub returns-in-Num-value : goal.returns-in-Num-value
returns-in-Num-value c =
    let within = rw c.in-Pointer.is at c.requires in
    let byte = poison_bytes-get 8 64 c.args.k within in
    elim c.in-Num-value.is [
      | inl e ↦ rw (c.in-Pointer.is, e.1, c.poison_byte-in-Num-value.ensures) byte
      | inr e ↦ rw (c.in-Pointer.is, e, c.poison_byte-in-Num-value.ensures) byte
    ]
