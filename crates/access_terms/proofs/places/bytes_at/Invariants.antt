-- The bytes are those at the offset where it is one of those so far.
use Rattle.access_terms.proofs.Common.{◌≡◌, ◌<◌, true, length, take, drop, Some, admits, Keeps, term_at, Reading, AreSymBytes, block_at, places_at}
use Rattle.access_terms.proofs.places.bytes_at.Given as goal

abbrev pub invariant-loop-place : goal.invariant-loop-place
invariant-loop-place l = record {
  kept : Keeps l.fn.terms l.terms;
  made : AreSymBytes l.terms l.bytes;
  count : length l.bytes ≡ l.count;
  stands : (r : Reading) → admits (Some (block_at r l.fn.terms l.b)) (term_at r.v l.fn.terms l.offset) l.count l.align ≡ true → term_at r.v l.fn.terms l.offset < l.place
      → places_at r l.terms l.bytes ≡ take l.count (drop (term_at r.v l.fn.terms l.offset) (places_at r l.fn.terms l.b.places));
}
