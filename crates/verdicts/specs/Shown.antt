-- What a counterexample shows.
use Rattle.std.specs.Prelude.{◌≡◌, [], length}
use Rattle.points.specs.declared.point.Bounds.{Bounds}
use Rattle.points.specs.declared.point.Point.{Point}
use Rattle.verdicts.specs.declared.verdict.Shown.{Shown}
use Rattle.verdicts.specs.Pair.{Functions, run_pair}
use Rattle.points.specs.Run.{run_of}

-- the target's run on the point, and the source's on the tape of zeros: the empty tape, since past its end each word is 0
pub record IsShown (pair : Functions) (bounds : Bounds) (p : Point) (shown : Shown) : Type 0 where
  pub target : shown.target ≡ (run_of (run_pair pair).target bounds p.input p.tape).outcome
  pub source : shown.source ≡ (run_of (run_pair pair).source bounds p.input []).outcome
  pub read : shown.read ≡ length (run_of (run_pair pair).target bounds p.input p.tape).taken
