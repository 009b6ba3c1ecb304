-- The bytes so far are the low ones of the number.
use Rattle.byte_terms.proofs.Common.{ℕ, ◌≡◌, ◌≤◌, ◌*◌, drop, length, Some, IsTerm, Keeps, term_at, Reading, places_at}
use Rattle.memory_access.specs.Bytes as meant
use Rattle.byte_terms.proofs.Digits.{Left}
use Rattle.byte_terms.proofs.integer_bytes.joined.Given as goal

abbrev pub invariant-loop-i : goal.invariant-loop-i
invariant-loop-i l = record {
  kept : Keeps l.fn.terms l.terms;
  within : l.i ≤ length l.bytes;
  made : IsTerm l.terms (8 * l.i) l.joined;
  stands : (r : Reading) (a : ℕ) → meant.number_of_bytes (places_at r l.fn.terms l.bytes) ≡ Some a → Left (places_at r l.fn.terms (drop l.i l.bytes)) a (term_at r.v l.terms l.joined) l.i;
}
