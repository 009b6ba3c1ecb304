-- The contents so far are those of the first blocks.
use Rattle.pair_questions.proofs.Common.{ℕ, ◌≡◌, All, List, length, map, take, MemoryBlock, Layout, BytesFit, Keeps, ByteTerms, Each, reading, IsByteTerms, IsBlockTerms, given_byte_at}
use Rattle.pair_questions.proofs.known.known_blocks.Given as goal

abbrev pub invariant-loop-block : goal.invariant-loop-block
invariant-loop-block l = record {
  kept : Keeps l.fn.terms l.terms;
  count : length l.known.items ≡ length (take l.block-index l.blocks);
  bytes : Each (Each (IsByteTerms l.terms)) l.known.items;
  are : (bytes : ℕ) → All (λ (b : MemoryBlock). length b.places ≡ bytes) l.blocks → Each (IsBlockTerms bytes l.terms) l.known.items;
  stands : (layout : Layout) (v : ℕ → ℕ → ℕ) → All (λ (b : MemoryBlock). BytesFit layout b.places) l.blocks
      → map (λ (places : List ByteTerms). map (given_byte_at (reading layout.blocks v) l.terms) places) l.known.items ≡ map (λ (b : MemoryBlock). b.places) (take l.block-index l.blocks);
}
