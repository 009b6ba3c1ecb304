-- Some index passes if one before the index does, or one from there on.
use Rattle.access_terms.proofs.Common.{ℕ, ◌≡◌, ◌||◌, drop, list_any, Keeps, IsTerm, bit_at, AreNumbers, indices_at, passes}
use Rattle.access_terms.proofs.offsets.any_passes.Given as goal

abbrev pub invariant-loop-index : goal.invariant-loop-index
invariant-loop-index l =
    Keeps l.fn.terms l.terms
    × IsTerm l.terms 1 l.any
    × ((v : ℕ → ℕ → ℕ) → AreNumbers v l.fn.terms l.indices
    → list_any (passes l.test) (indices_at v l.fn.terms l.indices) ≡ (bit_at v l.terms l.any || list_any (passes l.test) (drop l.index-index (indices_at v l.fn.terms l.indices))))
