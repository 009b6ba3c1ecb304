-- The contents so far are those of the first bytes.
use Rattle.pair_questions.proofs.Common.{ℕ, ◌≡◌, length, map, take, Layout, BytesFit, Keeps, Each, reading, IsByteTerms, given_byte_at}
use Rattle.pair_questions.proofs.known.known_places.Given as goal

abbrev pub invariant-loop-byte : goal.invariant-loop-byte
invariant-loop-byte l = record {
  kept : Keeps l.fn.terms l.terms;
  count : length l.known.items ≡ length (take l.byte-index l.bytes);
  are : Each (IsByteTerms l.terms) l.known.items;
  stands : (layout : Layout) (v : ℕ → ℕ → ℕ) → BytesFit layout l.bytes → map (given_byte_at (reading layout.blocks v) l.terms) l.known.items ≡ take l.byte-index l.bytes;
}
