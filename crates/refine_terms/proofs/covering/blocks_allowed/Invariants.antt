-- What is left of the blocks, and the test of those so far, say the whole.
use Rattle.refine_terms.proofs.Common.{ℕ, ◌≡◌, ◌&&◌, IsTerm, Keeps, bit_at}
use Rattle.refine_terms.proofs.MemoryTests.{all_blocks_pass, blocks_pass}
use Rattle.refine_terms.proofs.covering.blocks_allowed.Given as goal

abbrev pub invariant-loop-i : goal.invariant-loop-i
invariant-loop-i l = record {
  kept : Keeps l.fn.terms l.terms;
  all : IsTerm l.terms 1 l.all;
  rest : (v : ℕ → ℕ → ℕ) → (bit_at v l.terms l.all && blocks_pass l.given v l.fn.terms l.i l.source l.target) ≡ all_blocks_pass l.given v l.fn.terms l.source l.target;
}
