-- Which functions can be judged.
use Rattle.std.specs.Prelude.{◌≡◌, All, Ok}
use Rattle.ir_tree.specs.Sites.{AreNumbered}
use Rattle.ir_tree.specs.WellFormed.{IsWellFormed}
use Rattle.ir_tree.specs.Limits.{HasSmallNumbers, IsWithinLimits}
use Rattle.undef_uses.specs.Undefs.{UndefsFit}
use Rattle.ir_tree.specs.declared.module.Entry.{Entry}
use Rattle.ir_tree.specs.declared.tree.Function.{Function}

-- a function that is read is well formed and within all limits, its names are in its table, each of its allocas has a
-- small number, and undef is an operand only where it may be
pub record IsJudgeable (f : Function) : Type 0 where
  pub well_formed : IsWellFormed f
  pub limits : IsWithinLimits f
  pub numbered : AreNumbered f
  pub numbers : All HasSmallNumbers f.blocks
  pub undefs : UndefsFit f

abbrev pub IsJudgeableEntry : Entry → Type 0
IsJudgeableEntry e = (f : Function) → e.function ≡ Ok f → IsJudgeable f
