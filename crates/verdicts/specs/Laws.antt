-- What `correct` and `incorrect` mean of a pair, and that a pair has one verdict.
use Rattle.std.specs.Prelude.{◌≡◌, ◌<◌, ℕ, List, Bool, true, false}
use Rattle.ir_tree.specs.declared.tree.Function.{Function}
use Rattle.ir_tree.specs.Sites.{AreNumbered}
use Rattle.ir_tree.specs.WellFormed.{IsWellFormed}
use Rattle.undef_uses.specs.Undefs.{UndefsFit}
use Rattle.lowering.specs.Trees.{run_with_trees}
use Rattle.points.specs.declared.point.Bounds.{Bounds}
use Rattle.points.specs.declared.point.Budget.{Budget}
use Rattle.points.specs.declared.point.Input.{Input}
use Rattle.points.specs.declared.point.Point.{Point}
use Rattle.points.specs.Code.{ArgsFit, BlocksFit}
use Rattle.points.specs.Range.{AreInRange}
use Rattle.points.specs.Refines.{is_refined}
use Rattle.points.specs.Run.{run_of, IsPlain}
use Rattle.verdicts.specs.declared.verdict.Verdict.{Verdict}
use Rattle.verdicts.specs.declared.verdict.Verdict.TheVariants.{Correct, Incorrect}
use Rattle.verdicts.specs.Pair.{Functions, RunPair, layout_of, run_pair}
use Rattle.verdicts.specs.Covers.{IsLeastCover}
use Rattle.verdicts.specs.Trail.{IsPoint, place_in, IsVerdict}

-- a function that the reader accepts: its registers are in its table, it is well formed, and undef itself is an operand
-- only where it may be
pub record IsAccepted (f : Function) : Type 0 where
  pub numbered : AreNumbered f
  pub well_formed : IsWellFormed f
  pub undefs : UndefsFit f

pub record AreAccepted (pair : Functions) : Type 0 where
  pub source : IsAccepted pair.source
  pub target : IsAccepted pair.target

-- the source's run on one tape allows the target's run on another; a register that carries undef is sampled at each use
abbrev pub allows : Functions → Bounds → Input → List ℕ → List ℕ → Bool
allows pair bounds input source_tape tape =
    is_refined (run_with_trees pair.source bounds input source_tape).outcome (run_with_trees pair.target bounds input tape).outcome

-- some run of the source allows the target's run
pub record IsAllowed (pair : Functions) (bounds : Bounds) (input : Input) (tape : List ℕ) : Type 0 where
  pub source_tape : List ℕ
  pub refined : allows pair bounds input source_tape tape ≡ true

pub record IsWithin (pair : Functions) (bounds : Bounds) (input : Input) : Type 0 where
  pub args : ArgsFit (layout_of (run_pair pair) bounds) pair.target.parameters input.args
  pub given : BlocksFit (layout_of (run_pair pair) bounds) 1 input.blocks

-- on every input within the bounds each run of the target, on a tape of any length, is one that some run of the source allows
abbrev pub Holds : Functions → Bounds → Type 0
Holds pair bounds = (input : Input) (tape : List ℕ) → IsWithin pair bounds input → IsAllowed pair bounds input tape

abbrev pub CorrectHolds : Type 0
CorrectHolds = (pair : Functions) (bounds : Bounds) (budget : Budget) → AreAccepted pair → IsVerdict pair bounds budget Correct → Holds pair bounds

-- no run of the source allows the target's run at this point, and some run allows it at each smaller one
pub record IsCounterexample (pair : Functions) (bounds : Bounds) (p : Point) : Type 0 where
  pub point : IsPoint (run_pair pair) bounds p
  pub none : (tape : List ℕ) → allows pair bounds p.input tape p.tape ≡ false
  pub least : (q : Point) → IsPoint (run_pair pair) bounds q → place_in (run_pair pair) bounds q < place_in (run_pair pair) bounds p
      → IsAllowed pair bounds q.input q.tape

abbrev pub IncorrectFails : Type 0
IncorrectFails = (pair : Functions) (bounds : Bounds) (budget : Budget) (p : Point) → AreAccepted pair → IsVerdict pair bounds budget (Incorrect p) → IsCounterexample pair bounds p

abbrev pub LeastCoversArePlain : Type 0
LeastCoversArePlain = (pair : RunPair) (bounds : Bounds) (p : Point) (tape : List ℕ) → IsLeastCover pair bounds p tape → IsPlain tape (run_of pair.source bounds p.input tape)

abbrev pub VerdictsAreOne : Type 0
VerdictsAreOne = (pair : Functions) (bounds : Bounds) (budget : Budget) (v w : Verdict) → AreInRange bounds budget → IsVerdict pair bounds budget v → IsVerdict pair bounds budget w → v ≡ w
