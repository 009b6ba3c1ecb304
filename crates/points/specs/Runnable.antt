-- Which functions may be run.
use Rattle.std.specs.Prelude.{◌≤◌, All, length}
use Rattle.ir_tree.specs.declared.tree.Function.{Function}
use Rattle.ir_tree.specs.Limits.{HasSmallObjects}
use Rattle.points.specs.Tapes.{choice_widths}

-- its choices have at most 65 words for each of 65,536 instructions, and its objects are small
pub record IsRunnable (f : Function) : Type 0 where
  pub words : length (choice_widths f) ≤ 4259840
  pub objects : All HasSmallObjects f.blocks
