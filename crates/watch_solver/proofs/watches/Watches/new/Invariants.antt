-- All lists so far are empty.
use Rattle.watch_solver.proofs.Common.{◌≡◌, ℕ, List, [], Some, slice_get, length, Watch}
use Rattle.watch_solver.proofs.watches.Watches.new.Given as goal

abbrev pub invariant-loop-literal : goal.invariant-loop-literal
invariant-loop-literal l =
    (length l.lists.items ≡ l._literal) × ((k : ℕ) (ws : List Watch) → slice_get l.lists.items k ≡ Some ws → ws ≡ [])
