-- The literals so far are the one or false before the position, and before no earlier one.
use Rattle.clause_search.proofs.Common.{ℕ, ◌≤◌, ◌≡◌, ◌⊎◌, drop, take, Has, Lit, FalseBut, IsFalse}
use Rattle.clause_search.proofs.learning.place_past.Given as goal

abbrev pub invariant-loop-other : goal.invariant-loop-other
invariant-loop-other l =
    ((k : Lit) → Has (drop l.other-index l.other-items) k → Has l.clause k)
    × ((n : ℕ) → l.past ≤ n → (k : Lit) → Has l.clause k → ((k ≡ l.literal) ⊎ IsFalse (take n l.trail) k) ⊎ Has (drop l.other-index l.other-items) k)
    × ((n : ℕ) → FalseBut (take n l.trail) l.clause l.literal → l.past ≤ n)
