-- Correct gives that the refinement holds, and incorrect a point that no run of the source allows: what holds of the
-- lowered functions holds of the functions as they are read.
use Rattle.std.proofs.Common.{◌≡◌, ℕ, List, [], length, false, slice_get, sym, ap, ◌∙◌}
use Rattle.ir_tree.specs.declared.tree.Function.{Function}
use Rattle.lowering.specs.Lowered.{lowered}
use Rattle.lowering.specs.Trees.{run_with_trees}
use Rattle.lowering.proofs.PresentRuns.{samples_are_present}
use Rattle.points.specs.declared.point.Bounds.{Bounds}
use Rattle.points.specs.declared.point.Input.{Input}
use Rattle.points.specs.declared.point.Point.{Point}
use Rattle.points.specs.Refines.{is_refined}
use Rattle.points.specs.Run.{Run, run_of}
use Rattle.points.specs.Tapes.{need_of, widest_choice, plain_form}
use Rattle.points.proofs.Plain.{tapes_have_plain_forms}
use Rattle.points.proofs.Widest.{widest_small, widen}
use Rattle.verdicts.specs.Pair.{Functions, RunPair, run_pair}
use Rattle.verdicts.specs.Covers.{covers}
use Rattle.verdicts.specs.Trail.{IsLeastUncovered}
use Rattle.verdicts.specs.Laws.{allows, AreAccepted, IsAccepted, IsAllowed, CorrectHolds, IncorrectFails}
use Rattle.verdicts.proofs.Meaning.{IsCovered, allowed_same, covered_is_allowed, ends_correct, ends_incorrect, open_is_least, plain_covers, plain_point}

-- ---- a function and its lowered one

-- the lowered function runs as the function does
same_run : (f : Function) → IsAccepted f → (bounds : Bounds) (input : Input) (tape : List ℕ) → run_of (lowered f) bounds input tape ≡ run_with_trees f bounds input tape
same_run f accepted bounds input tape = samples_are_present f bounds input tape accepted.numbered accepted.well_formed accepted.undefs

-- so a run of the pair as it is run allows what one of the pair as it is read does
pub same_allows : (pair : Functions) → AreAccepted pair → (bounds : Bounds) (input : Input) (source_tape tape : List ℕ)
    → is_refined (run_of (lowered pair.source) bounds input source_tape).outcome (run_of (lowered pair.target) bounds input tape).outcome ≡ allows pair bounds input source_tape tape
same_allows pair accepted bounds input source_tape tape =
    ap (λ (run : Run). is_refined run.outcome (run_of (lowered pair.target) bounds input tape).outcome) (same_run pair.source accepted.source bounds input source_tape)
    ∙ ap (λ (run : Run). is_refined (run_with_trees pair.source bounds input source_tape).outcome run.outcome) (same_run pair.target accepted.target bounds input tape)

allowed : (pair : Functions) → AreAccepted pair → (bounds : Bounds) (input : Input) (tape : List ℕ) → IsCovered (run_pair pair) bounds input tape → IsAllowed pair bounds input tape
allowed pair accepted bounds input tape covered = record {
  source_tape = covered.source_tape;
  refined = sym (same_allows pair accepted bounds input covered.source_tape tape) ∙ covered.refined;
}

covers-allows : (pair : Functions) → AreAccepted pair → (bounds : Bounds) (p : Point) (tape : List ℕ) → covers (run_pair pair) bounds p tape ≡ false → allows pair bounds p.input tape p.tape ≡ false
unfolding covers
covers-allows pair accepted bounds p tape fails = sym (same_allows pair accepted bounds p.input tape p.tape) ∙ fails

-- ---- the two laws

pub correct_holds : CorrectHolds
correct_holds = λ functions bounds budget accepted verdict. λ input tape within.
    let pair : RunPair = run_pair functions in
    let all = ends_correct pair bounds budget verdict.kept.tapes (slice_get verdict.kept.points (length verdict.kept.tapes)) verdict.judges.ends in
    let form = tapes_have_plain_forms pair.target bounds input tape in
    let plain = plain_form (need_of bounds.turns pair.target) (run_of pair.target bounds input tape).taken in
    let p : Point = record { input = input; tape = plain } in
    let covered = allowed_same pair bounds input tape plain form.same (covered_is_allowed pair bounds verdict.kept.tapes p (all p (plain_point functions bounds input tape within form))) in
    allowed functions accepted bounds input tape covered

pub incorrect_fails : IncorrectFails
incorrect_fails = λ functions bounds budget p accepted verdict.
    let pair : RunPair = run_pair functions in
    let opened = ends_incorrect pair bounds budget verdict.kept.tapes (slice_get verdict.kept.points (length verdict.kept.tapes)) p verdict.judges.ends in
    let last : IsLeastUncovered pair bounds verdict.kept.tapes p = open_is_least pair bounds [] verdict.kept.tapes verdict.kept.points p verdict.judges.trail opened.is in
    record {
      point = last.point;
      none = λ tape.
          let form = tapes_have_plain_forms pair.source bounds p.input tape in
          covers-allows functions accepted bounds p tape
          (sym (plain_covers pair bounds p tape) ∙ opened.none _ (widen (widest_choice pair.source) (need_of bounds.turns pair.source) _ (widest_small pair.source) form.fits));
      least = λ q point less. allowed functions accepted bounds q.input q.tape (covered_is_allowed pair bounds verdict.kept.tapes q (last.least q point less));
    }
