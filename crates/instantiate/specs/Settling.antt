-- The verdict by questions, with the trail that leads to it and the certificate of its last question.
use Rattle.std.specs.Prelude.{◌≡◌, ℕ, zero, suc, ◌<◌, ◌≤◌, [], length, Option, Some, None}
use Rattle.points.specs.declared.point.Bounds.{Bounds}
use Rattle.points.specs.declared.point.Budget.{Budget}
use Rattle.points.specs.declared.point.Point.{Point}
use Rattle.verdicts.specs.declared.verdict.Verdict.{Verdict}
use Rattle.verdicts.specs.declared.verdict.Verdict.TheVariants.{Correct, Incorrect, Unknown}
use Rattle.verdicts.specs.declared.verdict.Cause.TheVariants.{Weight, Rounds, Conflicts}
use Rattle.verdicts.specs.Pair.{Functions, RunPair, run_pair}
use Rattle.verdicts.specs.Trail.{TrailFrom, open_point, Ends}
use Rattle.verdicts.specs.Weight.{IsHeavy}
use Rattle.clause_log.specs.declared.step.Cert.{Cert}
use Rattle.verdicts.specs.declared.verdict.Kept.{Kept}
use Rattle.instantiate.specs.declared.settled.Settled.{Settled}
use Rattle.pair_questions.specs.Questions.{IsUncovered, IsCovering, IsRefuted, IsSpentOn, point_widths, tape_widths}

-- the clauses that a question may learn; 0 sets no limit
abbrev pub limit_of : ℕ → Option ℕ
limit_of zero = None
limit_of (suc n) = Some (suc n)

-- ---- the trail

-- each point is the least that nothing before it covers, and each tape the least that covers its point
pub record IsTrailSoFar (pair : RunPair) (bounds : Bounds) (budget : Budget) (kept : Kept) : Type 0 where
  pub trail : TrailFrom pair bounds [] kept.tapes kept.points
  pub within : length kept.tapes ≤ budget.rounds

-- and it ends in this verdict
pub record IsTrailTo (pair : RunPair) (bounds : Bounds) (budget : Budget) (kept : Kept) (v : Verdict) : Type 0 where
  pub trail : IsTrailSoFar pair bounds budget kept
  pub ends : Ends pair bounds budget kept.tapes (open_point kept) v

-- ---- the certificate

-- there is a certificate, and it shows this
abbrev pub Shown : Option Cert → (Cert → Type 0) → Type 0
Shown None shows = ⊥
Shown (Some cert) shows = shows cert

-- the question after a trail: which tape covers the open point, or, where none is open, which point is uncovered
abbrev pub IsSpentNext : RunPair → Bounds → Kept → Option Point → ℕ → Cert → Type 0
IsSpentNext pair bounds kept None n cert = IsSpentOn (IsUncovered pair bounds kept.tapes) (point_widths pair bounds) n cert
IsSpentNext pair bounds kept (Some p) n cert = IsSpentOn (IsCovering pair bounds p) (tape_widths pair bounds) n cert

pub record IsSpentAt (pair : RunPair) (bounds : Bounds) (budget : Budget) (kept : Kept) (cert : Option Cert) : Type 0 where
  pub trail : IsTrailSoFar pair bounds budget kept
  pub limited : 0 < budget.conflicts
  pub spent : Shown cert (IsSpentNext pair bounds kept (open_point kept) budget.conflicts)

-- ---- the verdict

-- what the verdict comes with, on a pair that is not too heavy
abbrev pub ComesWith : RunPair → Bounds → Budget → Kept → Option Cert → Verdict → Type 0
ComesWith pair bounds budget kept cert Correct = IsTrailTo pair bounds budget kept Correct × Shown cert (IsRefuted (IsUncovered pair bounds kept.tapes) (point_widths pair bounds))
ComesWith pair bounds budget kept cert (Incorrect p) = IsTrailTo pair bounds budget kept (Incorrect p) × Shown cert (IsRefuted (IsCovering pair bounds p) (tape_widths pair bounds))
ComesWith pair bounds budget kept cert (Unknown Rounds) = IsTrailTo pair bounds budget kept (Unknown Rounds) × (cert ≡ None)
ComesWith pair bounds budget kept cert (Unknown Conflicts) = IsSpentAt pair bounds budget kept cert
ComesWith pair bounds budget kept cert (Unknown Weight) = ⊥

abbrev pub IsTold : RunPair → Bounds → Budget → Settled → Type 0
IsTold pair bounds budget s = ComesWith pair bounds budget s.kept s.cert s.verdict

-- nothing was asked
pub record IsNotAsked (kept : Kept) (cert : Option Cert) : Type 0 where
  pub tapes : kept.tapes ≡ []
  pub points : kept.points ≡ []
  pub uncertified : cert ≡ None

-- a pair that is too heavy is not asked about, and no other is reported as too heavy
abbrev pub IsJudged : Functions → Bounds → Budget → Kept → Option Cert → Verdict → Type 0
IsJudged pair bounds budget kept cert (Unknown Weight) = IsHeavy pair bounds budget × IsNotAsked kept cert
IsJudged pair bounds budget kept cert v = ¬ IsHeavy pair bounds budget × ComesWith (run_pair pair) bounds budget kept cert v

abbrev pub IsSettled : Functions → Bounds → Budget → Settled → Type 0
IsSettled pair bounds budget s = IsJudged pair bounds budget s.kept s.cert s.verdict
