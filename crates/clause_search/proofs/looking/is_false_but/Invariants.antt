-- The literals so far are the one or false.
use Rattle.clause_search.proofs.Common.{◌≡◌, ◌⊎◌, drop, take, Has, Lit, IsFalse}
use Rattle.clause_search.proofs.looking.is_false_but.Given as goal

abbrev pub invariant-loop-other : goal.invariant-loop-other
invariant-loop-other l =
    ((k : Lit) → Has (drop l.other-index l.other-items) k → Has l.clause k)
    × ((k : Lit) → Has l.clause k → ((k ≡ l.literal) ⊎ IsFalse (take l.place l.trail) k) ⊎ Has (drop l.other-index l.other-items) k)
