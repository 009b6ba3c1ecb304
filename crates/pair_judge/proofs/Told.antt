-- What an answer says.
use Rattle.std.proofs.Common.{◌≡◌, refl, inl, inr, Option}
use Rattle.verdicts.specs.declared.verdict.Verdict.{Verdict}
use Rattle.verdicts.specs.declared.verdict.Verdict.TheVariants.{Correct, Incorrect, Unknown}
use Rattle.verdicts.specs.declared.verdict.Cause.TheVariants.{Weight, Rounds, Conflicts}
use Rattle.clause_log.specs.declared.step.Cert.{Cert}
use Rattle.points.specs.declared.point.Bounds.{Bounds}
use Rattle.points.specs.declared.point.Budget.{Budget}
use Rattle.verdicts.specs.declared.verdict.Kept.{Kept}
use Rattle.verdicts.specs.Pair.{Functions}
use Rattle.instantiate.specs.Settling.{IsJudged}
use Rattle.pair_judge.specs.Laws.{MayBeTold, AnswersAreVerdicts}

told : (pair : Functions) (bounds : Bounds) (budget : Budget) (kept : Kept) (cert : Option Cert) (v : Verdict) → IsJudged pair bounds budget kept cert v → MayBeTold pair bounds budget v
told pair bounds budget kept cert Correct j = inl (record { kept = kept; judges = record { not_heavy = j.0; trail = j.1.0.trail.trail; within = j.1.0.trail.within; ends = j.1.0.ends } })
told pair bounds budget kept cert (Incorrect p) j = inl (record { kept = kept; judges = record { not_heavy = j.0; trail = j.1.0.trail.trail; within = j.1.0.trail.within; ends = j.1.0.ends } })
told pair bounds budget kept cert (Unknown Weight) j = inl (record { kept = kept; judges = record { heavy = j.0; tapes = j.1.tapes; points = j.1.points } })
told pair bounds budget kept cert (Unknown Rounds) j = inl (record { kept = kept; judges = record { not_heavy = j.0; trail = j.1.0.trail.trail; within = j.1.0.trail.within; ends = j.1.0.ends } })
told pair bounds budget kept cert (Unknown Conflicts) j = inr (record { is = refl; limited = j.1.limited; answer = record { verdict = Unknown Conflicts; kept = kept; cert = cert }; spent = j; told = refl })

pub answers_are_verdicts : AnswersAreVerdicts
answers_are_verdicts pair bounds budget answer j = told pair bounds budget answer.kept answer.cert answer.verdict j
