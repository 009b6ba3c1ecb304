-- The lowered function does what the function does: nobody has to believe the lowering.
use Rattle.std.specs.Prelude.{◌≡◌, ℕ, All, List}
use Rattle.ir_tree.specs.declared.tree.Function.{Function}
use Rattle.ir_tree.specs.Limits.{HasSmallNumbers, IsWithinLimits}
use Rattle.ir_tree.specs.Sites.{AreNumbered}
use Rattle.ir_tree.specs.WellFormed.{IsWellFormed}
use Rattle.points.specs.declared.point.Bounds.{Bounds}
use Rattle.points.specs.declared.point.Input.{Input}
use Rattle.points.specs.Run.{run_of}
use Rattle.undef_uses.specs.Undefs.{UndefsFit}
use Rattle.lowering.specs.Lowered.{lowered, CanBeLowered}
use Rattle.lowering.specs.Trees.{run_with_trees}

-- On every input and tape, a function that the reader accepts has the outcome of its lowered one, and takes the same
-- choices. So the values that a tree holds are those that its operands still have where it is sampled: a path that
-- gave one of them another value, and did not make the tree again, would reach the use without making it at all.
abbrev pub SamplesArePresent : Type 0
SamplesArePresent = (f : Function) (bounds : Bounds) (input : Input) (tape : List ℕ) → AreNumbered f → IsWellFormed f → UndefsFit f
    → run_of (lowered f) bounds input tape ≡ run_with_trees f bounds input tape

-- a function that the reader accepts can be lowered, and its lowered one may be run
abbrev pub AcceptedCanBeLowered : Type 0
AcceptedCanBeLowered = (f : Function) → AreNumbered f → IsWellFormed f → IsWithinLimits f → All HasSmallNumbers f.blocks → UndefsFit f → CanBeLowered f
