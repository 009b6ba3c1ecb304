-- Why names may share slots.
use Rattle.std.specs.Prelude.{◌≡◌, ℕ, List, length}
use Rattle.ir_tree.specs.declared.name.Name.{Name}
use Rattle.ir_tree.specs.declared.tree.Function.{Function}
use Rattle.points.specs.declared.point.Bounds.{Bounds}
use Rattle.points.specs.declared.point.Input.{Input}
use Rattle.points.specs.Run.{run_of}
use Rattle.register_slots.specs.Renaming.{function_in}
use Rattle.register_slots.specs.Allocation.{IsAllocation}

abbrev pub AllocationsKeepRuns : Type 0
AllocationsKeepRuns = (f : Function) (slots : List ℕ) (names : List Name) (lives : List (List ℕ)) → IsAllocation f slots (length names) lives
    → (bounds : Bounds) (input : Input) (tape : List ℕ) → run_of (function_in slots names f) bounds input tape ≡ run_of f bounds input tape
