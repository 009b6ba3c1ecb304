-- The sizes so far are those of the first blocks.
use Rattle.pair_questions.proofs.Common.{ℕ, ◌≡◌, length, map, take, MemoryBlock, IsTerm, Keeps, term_at, Each}
use Rattle.pair_questions.proofs.known.known_sizes.Given as goal

abbrev pub invariant-loop-block : goal.invariant-loop-block
invariant-loop-block l = record {
  kept : Keeps l.fn.terms l.terms;
  count : length l.sizes.items ≡ length (take l.block-index l.blocks);
  are : Each (IsTerm l.terms 6) l.sizes.items;
  stands : (v : ℕ → ℕ → ℕ) → map (term_at v l.terms) l.sizes.items ≡ map (λ (b : MemoryBlock). b.size) (take l.block-index l.blocks);
}
