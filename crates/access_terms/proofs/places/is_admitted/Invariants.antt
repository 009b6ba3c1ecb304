-- True where the offset is one of those so far, and the block admits it.
use Rattle.access_terms.proofs.Common.{◌≡◌, ◌&&◌, nat_lt, Some, admits, IsTerm, Keeps, bit_at, term_at, Reading, block_at}
use Rattle.access_terms.proofs.places.is_admitted.Given as goal

abbrev pub invariant-loop-place : goal.invariant-loop-place
invariant-loop-place l = record {
  kept : Keeps l.fn.terms l.terms;
  made : IsTerm l.terms 1 l.admitted;
  stands : (r : Reading) → bit_at r.v l.terms l.admitted ≡ (nat_lt (term_at r.v l.fn.terms l.offset) l.place && admits (Some (block_at r l.fn.terms l.b)) (term_at r.v l.fn.terms l.offset) l.count l.align);
}
