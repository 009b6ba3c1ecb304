-- What is left of the contents, and the test of those so far, say the whole.
use Rattle.refine_terms.proofs.Common.{ℕ, ◌≡◌, ◌&&◌, IsTerm, Keeps, bit_at}
use Rattle.refine_terms.proofs.MemoryTests.{all_pass, places_pass}
use Rattle.refine_terms.proofs.covering.places_allowed.Given as goal

abbrev pub invariant-loop-i : goal.invariant-loop-i
invariant-loop-i l = record {
  kept : Keeps l.fn.terms l.terms;
  all : IsTerm l.terms 1 l.all;
  rest : (v : ℕ → ℕ → ℕ) → (bit_at v l.terms l.all && places_pass l.given v l.fn.terms l.size l.i l.source l.target) ≡ all_pass l.given v l.fn.terms l.size l.source l.target;
}
