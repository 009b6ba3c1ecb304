use Rattle.refine_terms.proofs.Common.{ℕ, ◌≡◌, ◌↔◌, ◌-◌, true, drop, length, IsCodeOfPlaces, IsTerm, Keeps, bit_at, term_at, block_numbers}
use Rattle.refine_terms.proofs.places.block_code.Given as goal

abbrev pub invariant-loop-i : goal.invariant-loop-i
invariant-loop-i l = record {
  kept : Keeps l.fn.terms l.terms;
  all : IsTerm l.terms 1 l.all;
  rest : (v : ℕ → ℕ → ℕ) → ((bit_at v l.terms l.all ≡ true) × IsCodeOfPlaces l.layout (length l.places - l.i) (term_at v l.fn.terms l.size - l.i) (block_numbers v l.fn.terms (drop l.i l.places)))
      ↔ IsCodeOfPlaces l.layout (length l.places) (term_at v l.fn.terms l.size) (block_numbers v l.fn.terms l.places);
}
