-- The bytes so far are the first of the number's, or those of its poison bits.
use Rattle.byte_terms.proofs.Common.{◌≡◌, ◌+◌, ◌/◌, cond, take, Keeps, bit_at, term_at, Reading, AreSymBytes, places_at}
use Rattle.memory_access.specs.Bytes as meant
use Rattle.byte_terms.proofs.integer_bytes.number_bytes.Given as goal

abbrev pub invariant-loop-place : goal.invariant-loop-place
invariant-loop-place l = record {
  kept : Keeps l.fn.terms l.terms;
  made : AreSymBytes l.terms l.bytes.items;
  stands : (r : Reading) → places_at r l.terms l.bytes.items
      ≡ cond (bit_at r.v l.fn.terms l.is_poison) (take l.place (meant.poison_bytes ((l.width.bits + 7) / 8) l.width.bits)) (take l.place (meant.number_bytes ((l.width.bits + 7) / 8) (term_at r.v l.fn.terms l.value)));
}
