-- What the text of a report says of its rows: their names and findings, except for the point of an
-- incorrect row and what is shown of it.
use Rattle.std.specs.Prelude.{◌≡◌, ◌<◌, ◌^◌, All, Bool, List}
use Rattle.std.specs.List.{AllZip}
use Rattle.points.specs.declared.point.Bounds.{Bounds}
use Rattle.points.specs.declared.point.Budget.{Budget}
use Rattle.report.specs.declared.row.Finding.{Finding}
use Rattle.report.specs.declared.row.Finding.TheVariants as finding
use Rattle.report.specs.declared.row.Row.{Row}
use Rattle.report.specs.Text.{report_text}
use Rattle.proof_files.specs.Parts.{IsReadName}

-- line and column of a refusal are u64
abbrev pub HasPosition : Finding → Type 0
HasPosition (finding.Refused side refused) = (refused.line < 2 ^ 64) × (refused.column < 2 ^ 64)
HasPosition _ = Unit {0}

-- a row of functions as they are read: a number among the names has no leading zeros
pub record IsReadRow (row : Row) : Type 0 where
  pub name : IsReadName row.name
  pub position : HasPosition row.finding

-- the same, except for the point of an incorrect row and what is shown of it
abbrev pub IsSameFinding : Finding → Finding → Type 0
IsSameFinding (finding.Incorrect point shown) (finding.Incorrect other_point other_shown) = Unit {0}
IsSameFinding (finding.Incorrect point shown) _ = ⊥
IsSameFinding found other = found ≡ other

pub record SaysTheSame (row other : Row) : Type 0 where
  pub name : row.name ≡ other.name
  pub finding : IsSameFinding row.finding other.finding

-- reports with one text have the same number of rows, and each row says the same
abbrev pub TextsHaveOneListOfRows : Type 0
TextsHaveOneListOfRows = (bounds other_bounds : Bounds) (budget other_budget : Budget)
    (first other_first : Bool) (rows others : List Row) → All IsReadRow rows → All IsReadRow others
    → report_text bounds budget first rows ≡ report_text other_bounds other_budget other_first others
    → AllZip SaysTheSame rows others
