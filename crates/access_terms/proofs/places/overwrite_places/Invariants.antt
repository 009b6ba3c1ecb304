-- The bytes are put where the offset is one of those so far.
use Rattle.access_terms.proofs.Common.{◌≡◌, ◌%◌, ◌&&◌, cond, nat_eq, nat_lt, length, Keeps, bit_at, term_at, Reading, AreSymBytes, places_at, written}
use Rattle.access_terms.proofs.places.overwrite_places.Given as goal

abbrev pub invariant-loop-place : goal.invariant-loop-place
invariant-loop-place l = record {
  kept : Keeps l.fn.terms l.terms;
  made : AreSymBytes l.terms l.places;
  count : length l.places ≡ length l.fn.places;
  stands : (r : Reading) → places_at r l.terms l.places
      ≡ cond (bit_at r.v l.fn.terms l.c && (nat_lt (term_at r.v l.fn.terms l.offset) l.place && nat_eq (term_at r.v l.fn.terms l.offset % l.align) 0))
      (written (places_at r l.fn.terms l.bytes) (term_at r.v l.fn.terms l.offset) (places_at r l.fn.terms l.fn.places)) (places_at r l.fn.terms l.fn.places);
}
