-- Which pairs the judge takes, and what it may answer of them.
use Rattle.std.specs.Prelude.{All}
use Rattle.ir_tree.specs.Limits.{IsWithinLimits, HasSmallNumbers}
use Rattle.ir_tree.specs.Sites.{AreNumbered}
use Rattle.ir_tree.specs.WellFormed.{IsWellFormed}
use Rattle.undef_uses.specs.Undefs.{UndefsFit}
use Rattle.points.specs.declared.point.Bounds.{Bounds}
use Rattle.points.specs.declared.point.Budget.{Budget}
use Rattle.verdicts.specs.Pair.{Functions}
use Rattle.pair_driver.specs.declared.judged.Judged.{Judged}
use Rattle.instantiate.specs.Settling.{IsJudged}

-- functions that are well formed and within the limits, whose names are in their tables and whose allocas have numbers
-- below 65,536, and in which undef is an operand only where it may be
pub record CanBeJudged (pair : Functions) : Type 0 where
  pub source_formed : IsWellFormed pair.source
  pub target_formed : IsWellFormed pair.target
  pub source_limits : IsWithinLimits pair.source
  pub target_limits : IsWithinLimits pair.target
  pub source_numbered : AreNumbered pair.source
  pub target_numbered : AreNumbered pair.target
  pub source_numbers : All HasSmallNumbers pair.source.blocks
  pub target_numbers : All HasSmallNumbers pair.target.blocks
  pub source_undefs : UndefsFit pair.source
  pub target_undefs : UndefsFit pair.target

-- the verdict by the one trail, with that trail and the certificate of its last question
abbrev pub IsAnswer : Functions → Bounds → Budget → Judged → Type 0
IsAnswer pair bounds budget answer = IsJudged pair bounds budget answer.kept answer.cert answer.verdict
