-- The literals so far are the one or false.
use Rattle.watch_solver.proofs.Common.{◌≡◌, ◌⊎◌, drop, take, Has, Lit, IsFalse}
use Rattle.watch_solver.proofs.free.free_among.Given as goal

abbrev pub invariant-loop-literal : goal.invariant-loop-literal
invariant-loop-literal l =
    ((k : Lit) → Has (drop l.literal-index l.literals) k → Has l.literals k)
    × ((k : Lit) → Has l.literals k → ((k ≡ l.other) ⊎ IsFalse (take l.place l.trail) k) ⊎ Has (drop l.literal-index l.literals) k)
