use Rattle.encoder.proofs.Common.{ℕ, ◌≡◌, ◌&&◌, drop, Keeps, IsTerm, term_at, bit_at, words_at, zeros_past}
use Rattle.encoder.proofs.function_run.zeros.Given as goal

abbrev pub invariant-loop-i : goal.invariant-loop-i
invariant-loop-i l =
    Keeps l.fn.terms l.terms
    × IsTerm l.terms 1 l.all
    × ((v : ℕ → ℕ → ℕ) → (bit_at v l.terms l.all && zeros_past (term_at v l.fn.terms l.read) l.i (drop l.i (words_at v l.fn.terms l.tape)))
    ≡ zeros_past (term_at v l.fn.terms l.read) 0 (words_at v l.fn.terms l.tape))
