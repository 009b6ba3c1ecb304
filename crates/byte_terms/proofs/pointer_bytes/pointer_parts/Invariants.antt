-- The bytes so far are the first of the pointer's parts, or poison.
use Rattle.byte_terms.proofs.Common.{◌≡◌, cond, replicate, take, Bits, Keeps, bit_at, Reading, AreSymBytes, places_at}
use Rattle.memory_access.specs.Bytes as meant
use Rattle.byte_terms.proofs.Parts.{pointer_at}
use Rattle.byte_terms.proofs.pointer_bytes.pointer_parts.Given as goal

abbrev pub invariant-loop-place : goal.invariant-loop-place
invariant-loop-place l = record {
  kept : Keeps l.fn.terms l.terms;
  made : AreSymBytes l.terms l.bytes.items;
  stands : (r : Reading) → places_at r l.terms l.bytes.items
      ≡ cond (bit_at r.v l.fn.terms l.is_part) (take l.place (meant.parts_from (pointer_at r l.fn.terms l.block l.offset) 0 8)) (take l.place (replicate 8 (Bits 0 255)));
}
