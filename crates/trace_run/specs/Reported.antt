-- What a report shows of a function.
use Rattle.std.specs.Prelude.{◌≡◌, ◌⊎◌, ℕ, List, ◌++◌, Option, Some, None}
use Rattle.ir_tree.specs.declared.name.Name.{Name}
use Rattle.ir_tree.specs.declared.module.Entry.{Entry}
use Rattle.points.specs.declared.point.Bounds.{Bounds}
use Rattle.points.specs.declared.point.Budget.{Budget}
use Rattle.points.specs.declared.point.Point.{Point}
use Rattle.verdicts.specs.declared.verdict.Shown.{Shown}
use Rattle.verdicts.specs.Laws.{IsWithin}
use Rattle.verdicts.specs.Pair.{Functions}
use Rattle.verdicts.specs.Shown.{IsShown}
use Rattle.report.specs.declared.row.Finding.TheVariants as finding
use Rattle.report.specs.declared.row.Row.{Row}
use Rattle.report.specs.Rows.{function_named}
use Rattle.report.specs.Text.{row_text}
use Rattle.module_rows.specs.Judging.{listed, pairs_in}
use Rattle.row_points.specs.Lines.{BeginsWithRow, HasRow}
use Rattle.trace_run.specs.Explanations.{AreRuns, CanBeExplained, IsExplanation}

-- the row with what a point shows, where the source's run on the tape of zeros does not allow the target's run there
pub record ShowsPoint (pair : Functions) (bounds : Bounds) (point : Point) (name : Name) (row : Row) : Type 0 where
  pub shown : Shown
  pub is_shown : IsShown pair bounds point shown
  pub fails : CanBeExplained pair bounds point
  pub named : row.name ≡ name
  pub finding_is : row.finding ≡ finding.Incorrect point shown

-- these bytes begin with the row that the point shows, and the text is that row and the runs there
pub record IsShownAt (pair : Functions) (bounds : Bounds) (point : Point) (name : Name) (rest text : List ℕ) (status : ℕ) : Type 0 where
  pub row : Row
  pub runs : List ℕ
  pub shows : ShowsPoint pair bounds point name row
  pub has_row : BeginsWithRow rest (row_text row)
  pub are_runs : AreRuns pair bounds point runs
  pub text_is : text ≡ row_text row ++ runs
  pub status_is : status ≡ 1

-- the report has a row of a function of the source that both runs at its point show: the input is within the bounds, and the source's run on the tape of zeros does not allow the target's; that no other tape does is what the report says
pub record IsShownBy (report : List ℕ) (bounds : Bounds) (targets : List Entry) (source : Entry) (text : List ℕ) (status : ℕ) : Type 0 where
  pub pair : Functions
  pub point : Point
  pub row : Row
  pub runs : List ℕ
  -- the pair that is judged for such a row
  pub is_pair : pairs_in source.function (function_named targets source.name) ≡ listed (Some pair)
  pub within : IsWithin pair bounds point.input
  pub shows : ShowsPoint pair bounds point source.name row
  pub has_row : HasRow report (row_text row)
  pub are_runs : AreRuns pair bounds point runs
  pub text_is : text ≡ row_text row ++ runs
  pub status_is : status ≡ 1

-- what is written of a function of the source: its row by the judge, or, where there is a report, what that shows
abbrev pub IsAnswered : Bounds → Budget → Option (List ℕ) → List Entry → Entry → List ℕ → ℕ → Type 0
IsAnswered bounds budget None targets source text status = IsExplanation bounds budget targets source text status
IsAnswered bounds budget (Some report) targets source text status = IsExplanation bounds budget targets source text status ⊎ IsShownBy report bounds targets source text status
