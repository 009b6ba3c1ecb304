-- The indices from the index on lead from here where all lead from the offset.
use Rattle.access_terms.proofs.Common.{ℕ, ◌≡◌, drop, pos, wrapped, last_sum, Keeps, IsTerm, term_at, AreNumbers, indices_at}
use Rattle.access_terms.proofs.offsets.offset_after.Given as goal

abbrev pub invariant-loop-index : goal.invariant-loop-index
invariant-loop-index l =
    Keeps l.fn.terms l.terms
    × IsTerm l.terms 64 l.sum
    × ((v : ℕ → ℕ → ℕ) → AreNumbers v l.fn.terms l.indices
    → wrapped 64 (last_sum (pos (term_at v l.terms l.sum)) (drop l.index-index (indices_at v l.fn.terms l.indices))) ≡ wrapped 64 (last_sum (pos (term_at v l.fn.terms l.fn.offset)) (indices_at v l.fn.terms l.indices)))
