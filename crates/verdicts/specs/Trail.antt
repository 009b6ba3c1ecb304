-- The verdict on a pair: tapes are added one by one, each the least that covers the least point which nothing before it covers.
use Rattle.std.specs.Prelude.{◌≡◌, ℕ, ◌<◌, ◌≤◌, List, [], ◌∷◌, ◌++◌, length, slice_get, Option, Some, None, true, false}
use Rattle.points.specs.declared.point.Bounds.{Bounds}
use Rattle.points.specs.declared.point.Budget.{Budget}
use Rattle.points.specs.declared.point.Point.{Point}
use Rattle.verdicts.specs.declared.verdict.Kept.{Kept}
use Rattle.verdicts.specs.declared.verdict.Verdict.{Verdict}
use Rattle.verdicts.specs.declared.verdict.Verdict.TheVariants.{Correct, Incorrect, Unknown}
use Rattle.verdicts.specs.declared.verdict.Cause.TheVariants.{Weight, Rounds}
use Rattle.verdicts.specs.Pair.{Functions, RunPair, layout_of, run_pair}
use Rattle.points.specs.Code.{ArgsFit, BlocksFit, WordsFit, place_of}
use Rattle.points.specs.Run.{run_of, IsPlain}
use Rattle.points.specs.Tapes.{need_of, widest_choice}
use Rattle.verdicts.specs.Covers.{covers, is_covered, IsLeastCover, HasNoCover}
use Rattle.verdicts.specs.Weight.{IsHeavy}

-- an input within the bounds with a tape of the target, each of whose words is a choice that the target takes, or 0
pub record IsPoint (pair : RunPair) (bounds : Bounds) (p : Point) : Type 0 where
  pub args : ArgsFit (layout_of pair bounds) pair.target.parameters p.input.args
  pub given : BlocksFit (layout_of pair bounds) 1 p.input.blocks
  pub tape : WordsFit (widest_choice pair.target) (need_of bounds.turns pair.target) p.tape
  pub plain : IsPlain p.tape (run_of pair.target bounds p.input p.tape)

abbrev pub place_in : RunPair → Bounds → Point → ℕ
place_in pair bounds p = place_of (layout_of pair bounds) pair.target.parameters p

pub record IsLeastUncovered (pair : RunPair) (bounds : Bounds) (tapes : List (List ℕ)) (p : Point) : Type 0 where
  pub point : IsPoint pair bounds p
  pub uncovered : is_covered pair bounds tapes p ≡ false
  pub least : (q : Point) → IsPoint pair bounds q → place_in pair bounds q < place_in pair bounds p → is_covered pair bounds tapes q ≡ true

abbrev pub AreAllCovered : RunPair → Bounds → List (List ℕ) → Type 0
AreAllCovered pair bounds tapes = (q : Point) → IsPoint pair bounds q → is_covered pair bounds tapes q ≡ true

-- ---- the trail

-- each point is the least that neither a candidate nor an earlier tape covers, and each tape the least that covers its point; `before` are the tapes that were there when it began
abbrev pub TrailFrom : RunPair → Bounds → List (List ℕ) → List (List ℕ) → List Point → Type 0
TrailFrom pair bounds before [] [] = Unit {0}
TrailFrom pair bounds before [] (p ∷ []) = IsLeastUncovered pair bounds before p
TrailFrom pair bounds before (tape ∷ tapes) (p ∷ points) =
    IsLeastUncovered pair bounds before p × IsLeastCover pair bounds p tape × TrailFrom pair bounds (before ++ tape ∷ []) tapes points
TrailFrom pair bounds before _ _ = ⊥

-- the point that has no tape yet
abbrev pub open_point : Kept → Option Point
open_point kept = slice_get kept.points (length kept.tapes)

-- ---- the verdict

pub record HasCover (pair : RunPair) (bounds : Bounds) (p : Point) : Type 0 where
  pub tape : List ℕ
  pub fits : WordsFit 64 (need_of bounds.turns pair.source) tape
  pub cover : covers pair bounds p tape ≡ true

-- what the trail ends in, by its open point: every point is covered, or no tape covers this one, or a tape does and would be one too many
abbrev pub Ends : RunPair → Bounds → Budget → List (List ℕ) → Option Point → Verdict → Type 0
Ends pair bounds budget tapes None Correct = AreAllCovered pair bounds tapes
Ends pair bounds budget tapes (Some p) (Incorrect q) = (q ≡ p) × HasNoCover pair bounds p
Ends pair bounds budget tapes (Some p) (Unknown Rounds) = (length tapes ≡ budget.rounds) × HasCover pair bounds p
Ends pair bounds budget tapes _ _ = ⊥

pub record IsTrail (pair : Functions) (bounds : Bounds) (budget : Budget) (kept : Kept) (v : Verdict) : Type 0 where
  pub not_heavy : ¬ IsHeavy pair bounds budget
  pub trail : TrailFrom (run_pair pair) bounds [] kept.tapes kept.points
  pub within : length kept.tapes ≤ budget.rounds
  pub ends : Ends (run_pair pair) bounds budget kept.tapes (open_point kept) v

-- a pair that is too heavy has no trail
pub record IsNoTrail (pair : Functions) (bounds : Bounds) (budget : Budget) (kept : Kept) : Type 0 where
  pub heavy : IsHeavy pair bounds budget
  pub tapes : kept.tapes ≡ []
  pub points : kept.points ≡ []

-- the verdict, and the trail that shows it
abbrev pub Judges : Functions → Bounds → Budget → Kept → Verdict → Type 0
Judges pair bounds budget kept (Unknown Weight) = IsNoTrail pair bounds budget kept
Judges pair bounds budget kept v = IsTrail pair bounds budget kept v

pub record IsVerdict (pair : Functions) (bounds : Bounds) (budget : Budget) (v : Verdict) : Type 0 where
  pub kept : Kept
  pub judges : Judges pair bounds budget kept v
