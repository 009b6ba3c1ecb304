-- The bytes so far are the first parts of the pointer where it is true.
use Rattle.byte_terms.proofs.Common.{◌≡◌, ◌&&◌, drop, IsTerm, Keeps, bit_at, IsNaming, Reading, places_at}
use Rattle.memory_access.specs.Bytes as meant
use Rattle.byte_terms.proofs.Parts.{pointer_at}
use Rattle.byte_terms.proofs.pointer_bytes.are_parts.Given as goal

abbrev pub invariant-loop-i : goal.invariant-loop-i
invariant-loop-i l = record {
  kept : Keeps l.fn.terms l.terms;
  made : IsTerm l.terms 1 l.are_parts;
  stands : (r : Reading) → IsNaming r.name → (bit_at r.v l.terms l.are_parts && meant.are_parts (pointer_at r l.fn.terms l.block l.offset) l.i (places_at r l.fn.terms (drop l.i l.bytes)))
      ≡ meant.are_parts (pointer_at r l.fn.terms l.block l.offset) 0 (places_at r l.fn.terms l.bytes);
}
