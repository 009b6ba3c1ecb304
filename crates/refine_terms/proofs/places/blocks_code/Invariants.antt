use Rattle.refine_terms.proofs.Common.{ℕ, ◌≡◌, ◌↔◌, true, drop, map, flat_map, IsCodeOfBlocks, IsTerm, Keeps, bit_at, term_at, block_numbers}
use Rattle.refine_terms.proofs.places.blocks_code.Given as goal

abbrev pub invariant-loop-i : goal.invariant-loop-i
invariant-loop-i l = record {
  kept : Keeps l.fn.terms l.terms;
  all : IsTerm l.terms 1 l.all;
  rest : (v : ℕ → ℕ → ℕ) → ((bit_at v l.terms l.all ≡ true) × IsCodeOfBlocks l.layout (map (term_at v l.fn.terms) (drop l.i l.sizes)) (flat_map (block_numbers v l.fn.terms) (drop l.i l.places)))
      ↔ IsCodeOfBlocks l.layout (map (term_at v l.fn.terms) l.sizes) (flat_map (block_numbers v l.fn.terms) l.places);
}
