-- The row of a function, and the two runs of its counterexample, as one text.
use Rattle.std.specs.Prelude.{◌≡◌, ℕ, false, List, [], ◌∷◌, ◌++◌, Option, Some, None}
use Rattle.ir_tree.specs.declared.module.Entry.{Entry}
use Rattle.points.specs.declared.point.Bounds.{Bounds}
use Rattle.points.specs.declared.point.Budget.{Budget}
use Rattle.points.specs.declared.point.Point.{Point}
use Rattle.points.specs.Refines.{is_refined}
use Rattle.points.specs.Run.{run_of}
use Rattle.lowering.specs.Lowered.{CanBeLowered}
use Rattle.verdicts.specs.Pair.{Functions, run_pair}
use Rattle.report.specs.declared.row.Finding.{Finding}
use Rattle.report.specs.declared.row.Finding.TheVariants as finding
use Rattle.report.specs.declared.row.Row.{Row}
use Rattle.report.specs.Rows.{IsRow, function_named}
use Rattle.report.specs.Text.{row_text}
use Rattle.report.specs.Status.{status_of}
use Rattle.module_rows.specs.Judging.{listed, may_answer, pairs_in}
use Rattle.pair_trace.specs.declared.traces.Traces.{Traces}
use Rattle.pair_trace.specs.declared.differences.Difference.{Difference}
use Rattle.pair_trace.specs.Traces.{AreTracesOf}
use Rattle.pair_trace.specs.Differences.{IsDifference}
use Rattle.trace_text.specs.TraceText.{trace_text}

-- the text of the traces of both runs at a point, and of how their outcomes differ
pub record AreRuns (pair : Functions) (bounds : Bounds) (point : Point) (text : List ℕ) : Type 0 where
  pub traces : Traces
  pub difference : Difference
  pub are_traces : AreTracesOf pair bounds point traces
  pub differs : IsDifference traces.source.outcome traces.target.outcome difference
  pub text_is : text ≡ trace_text pair traces difference

-- the runs of the pair at the point of an incorrect finding; of another there are none
abbrev pub AreRunsOf : Bounds → Finding → Option Functions → List ℕ → Type 0
AreRunsOf bounds (finding.Incorrect point shown) (Some pair) text = AreRuns pair bounds point text
AreRunsOf bounds (finding.Incorrect point shown) None text = ⊥
AreRunsOf bounds _ pair text = text ≡ []

-- what is written of a function of the source: its row, and where that is incorrect the two runs
pub record IsExplanation (bounds : Bounds) (budget : Budget) (targets : List Entry) (source : Entry) (text : List ℕ) (status : ℕ) : Type 0 where
  pub row : Row
  pub pair : Option Functions
  pub runs : List ℕ
  -- the row of the report, and the pair that is judged for it
  pub is_row : IsRow (may_answer bounds budget) bounds targets source row
  pub is_pair : pairs_in source.function (function_named targets source.name) ≡ listed pair
  pub are_runs : AreRunsOf bounds row.finding pair runs
  pub text_is : text ≡ row_text row ++ runs
  pub status_is : status ≡ status_of (row ∷ [])

-- ---- what is known of an incorrect finding before it is explained

-- the source's run on the tape of zeros does not allow the target's run at the point
pub record CanBeExplained (pair : Functions) (bounds : Bounds) (point : Point) : Type 0 where
  pub source_runs : CanBeLowered pair.source
  pub target_runs : CanBeLowered pair.target
  pub fails : is_refined (run_of (run_pair pair).source bounds point.input []).outcome (run_of (run_pair pair).target bounds point.input point.tape).outcome ≡ false

abbrev pub CanExplain : Bounds → Finding → Option Functions → Type 0
CanExplain bounds (finding.Incorrect point shown) (Some pair) = CanBeExplained pair bounds point
CanExplain bounds (finding.Incorrect point shown) None = ⊥
CanExplain bounds _ pair = Unit {0}
