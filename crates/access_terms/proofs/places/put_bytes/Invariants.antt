-- The bytes so far are put where the condition is true.
use Rattle.access_terms.proofs.Common.{◌≡◌, ◌≤◌, length, cond, paste, Keeps, bit_at, Reading, AreSymBytes, places_at}
use Rattle.access_terms.proofs.places.put_bytes.Given as goal

abbrev pub invariant-loop-i : goal.invariant-loop-i
invariant-loop-i l = record {
  kept : Keeps l.fn.terms l.terms;
  within : l.i ≤ length l.bytes;
  made : AreSymBytes l.terms l.places;
  count : length l.places ≡ length l.fn.places;
  stands : (r : Reading) → places_at r l.terms l.places ≡ cond (bit_at r.v l.fn.terms l.c) (paste (places_at r l.fn.terms l.fn.places) l.from (places_at r l.fn.terms l.bytes) l.i) (places_at r l.fn.terms l.fn.places);
}
