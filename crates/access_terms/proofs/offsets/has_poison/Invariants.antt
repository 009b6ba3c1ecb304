-- Some index is poison if one before the index is, or one from there on.
use Rattle.access_terms.proofs.Common.{ℕ, ◌≡◌, not, ◌||◌, drop, list_any, is_index, Keeps, IsTerm, bit_at, indices_at}
use Rattle.access_terms.proofs.offsets.has_poison.Given as goal

abbrev pub invariant-loop-index : goal.invariant-loop-index
invariant-loop-index l =
    Keeps l.fn.terms l.terms
    × IsTerm l.terms 1 l.any
    × ((v : ℕ → ℕ → ℕ) → list_any (λ x. not (is_index x)) (indices_at v l.fn.terms l.indices) ≡ (bit_at v l.terms l.any || list_any (λ x. not (is_index x)) (drop l.index-index (indices_at v l.fn.terms l.indices))))
