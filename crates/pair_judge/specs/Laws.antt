-- What follows from the answers.
use Rattle.std.specs.Prelude.{◌≡◌, ◌<◌, ◌⊎◌}
use Rattle.points.specs.declared.point.Bounds.{Bounds}
use Rattle.points.specs.declared.point.Budget.{Budget}
use Rattle.verdicts.specs.declared.verdict.Verdict.{Verdict}
use Rattle.verdicts.specs.declared.verdict.Verdict.TheVariants.{Unknown}
use Rattle.verdicts.specs.declared.verdict.Cause.TheVariants.{Conflicts}
use Rattle.verdicts.specs.Pair.{Functions}
use Rattle.verdicts.specs.Trail.{IsVerdict}
use Rattle.pair_driver.specs.declared.judged.Judged.{Judged}
use Rattle.pair_judge.specs.Answers.{IsAnswer}

-- the limit on learned clauses was spent on the next question of a trail
pub record IsSpentAnswer (pair : Functions) (bounds : Bounds) (budget : Budget) (v : Verdict) : Type 0 where
  pub is : v ≡ Unknown Conflicts
  pub limited : 0 < budget.conflicts
  pub answer : Judged
  pub spent : IsAnswer pair bounds budget answer
  pub told : answer.verdict ≡ v

-- the defined verdict, or that the limit was spent
abbrev pub MayBeTold : Functions → Bounds → Budget → Verdict → Type 0
MayBeTold pair bounds budget v = IsVerdict pair bounds budget v ⊎ IsSpentAnswer pair bounds budget v

abbrev pub AnswersAreVerdicts : Type 0
AnswersAreVerdicts = (pair : Functions) (bounds : Bounds) (budget : Budget) (answer : Judged) → IsAnswer pair bounds budget answer → MayBeTold pair bounds budget answer.verdict
