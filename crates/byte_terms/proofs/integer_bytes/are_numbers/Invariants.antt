-- The bytes so far are numbers where it is true.
use Rattle.byte_terms.proofs.Common.{◌≡◌, ◌&&◌, drop, is_some, IsTerm, Keeps, bit_at, Reading, places_at}
use Rattle.memory_access.specs.Bytes as meant
use Rattle.byte_terms.proofs.integer_bytes.are_numbers.Given as goal

abbrev pub invariant-loop-byte : goal.invariant-loop-byte
invariant-loop-byte l = record {
  kept : Keeps l.fn.terms l.terms;
  made : IsTerm l.terms 1 l.are_numbers;
  stands : (r : Reading) → (bit_at r.v l.terms l.are_numbers && is_some (meant.number_of_bytes (places_at r l.fn.terms (drop l.byte-index l.fn.bytes)))) ≡ is_some (meant.number_of_bytes (places_at r l.fn.terms l.fn.bytes));
}
