-- The walk so far is that of the indices before the index.
use Rattle.access_terms.proofs.Common.{ℕ, ◌<◌, ◌^◌, Keeps, IsTerm, bit_at, term_at, AreNumbers, indices_at}
use Rattle.access_terms.proofs.Indices.{IsWalked}
use Rattle.access_terms.proofs.offsets.walk_indices.Given as goal

abbrev pub invariant-loop-index : goal.invariant-loop-index
invariant-loop-index l =
    Keeps l.fn.terms l.terms
    × IsTerm l.terms 64 l.walk.offset
    × IsTerm l.terms 1 l.walk.leaves
    × ((v : ℕ → ℕ → ℕ) → term_at v l.terms l.walk.offset < 2 ^ 64)
    × ((v : ℕ → ℕ → ℕ) → AreNumbers v l.fn.terms l.indices
    → IsWalked (term_at v l.fn.terms l.size) (term_at v l.fn.terms l.fn.offset) (indices_at v l.fn.terms l.indices) l.index-index (term_at v l.terms l.walk.offset) (bit_at v l.terms l.walk.leaves))
