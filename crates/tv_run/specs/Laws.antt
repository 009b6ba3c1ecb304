-- What follows from the definitions: a report is sound; without a limit on conflicts it is the
-- defined one, and two files have one; they have one fault; and the proof file of a report is
-- verified whole.
use Rattle.std.specs.Prelude.{◌≡◌, ◌≢◌, ℕ, Bool, true, false, List, Some}
use Rattle.tv_io.specs.Files.{Files}
use Rattle.tv_io.specs.State.{ShelfState, SinkState}
use Rattle.ir_tree.specs.declared.module.Module.{Module}
use Rattle.module_files.specs.declared.stop.Stop.{Stop}
use Rattle.points.specs.declared.point.Bounds.{Bounds}
use Rattle.points.specs.declared.point.Budget.{Budget}
use Rattle.points.specs.Range.{AreInRange}
use Rattle.pair_driver.specs.declared.judged.Judged.{Judged}
use Rattle.report.specs.declared.row.Row.{Row}
use Rattle.report.specs.Rows.{first_rows}
use Rattle.proof_files.specs.Parts.{parts_of}
use Rattle.tv_cli.specs.Words.{Text, Check}
use Rattle.tv_run.specs.Files.{HasModule}
use Rattle.tv_run.specs.Logs.{IsVerifiedWhole, LogWritten}
use Rattle.tv_run.specs.Reports.{Reports, HoldsProof, IsReport, IsDefinedReport, IsTheDefinedReport}
use Rattle.tv_run.specs.Answers.{IsJudgeableModule}
use Rattle.tv_run.specs.Sound.{IsSound, SaysRefinement}
use Rattle.tv_run.specs.Stops.{HasCause, stop_status}

-- the rows of a report on two modules that the judge takes are sound
abbrev pub ReportsAreSound : Type 0
ReportsAreSound = (first : Bool) (bounds : Bounds) (budget : Budget) (source target : Module)
    (answers : List Judged) (text : List ℕ) (status : ℕ)
    → IsJudgeableModule source → IsJudgeableModule target
    → (report : IsReport first bounds budget source target answers text status)
    → IsSound first bounds source target report.rows

-- so the report of two files says how their functions refine
abbrev pub FileReportsAreSound : Type 0
FileReportsAreSound = (files : Files) (c : Check)
    (answers : List Judged) (text : List ℕ) (status : ℕ)
    → Reports files c answers text status → SaysRefinement files c text status

-- without a limit on conflicts the rows are those of the verdicts' definition
abbrev pub ReportsAreDefined : Type 0
ReportsAreDefined = (first : Bool) (bounds : Bounds) (budget : Budget) (source target : Module)
    (answers : List Judged) (text : List ℕ) (status : ℕ) → budget.conflicts ≡ 0
    → IsReport first bounds budget source target answers text status
    → IsDefinedReport first bounds budget source target text status

-- so the report of two files is the defined one
abbrev pub FileReportsAreDefined : Type 0
FileReportsAreDefined = (files : Files) (c : Check)
    (answers : List Judged) (text : List ℕ) (status : ℕ)
    → AreInRange c.bounds c.budget → c.budget.conflicts ≡ 0
    → Reports files c answers text status → IsTheDefinedReport files c text status

-- both checks name files of the same bytes, and judge them within the same bounds and budget, all pairs
-- or those up to the first incorrect one; their workers, their proof files and the names of all files may differ
pub record CheckTheSame (files others : Files) (a b : Check) : Type 0 where
  pub source : files a.source ≡ others b.source
  pub target : files a.target ≡ others b.target
  pub bounds : a.bounds ≡ b.bounds
  pub budget : a.budget ≡ b.budget
  pub first : a.first ≡ b.first

-- and they have one report
abbrev pub ReportsAreOne : Type 0
ReportsAreOne = (files others : Files) (a b : Check) (answers other_answers : List Judged)
    (text other : List ℕ) (status other_status : ℕ)
    → AreInRange a.bounds a.budget → a.budget.conflicts ≡ 0 → CheckTheSame files others a b
    → Reports files a answers text status → Reports others b other_answers other other_status
    → (text ≡ other) × (status ≡ other_status)

-- the defined report that ends at the first incorrect row has the rows of the whole one up to there
abbrev pub FirstReportsHaveTheFirstRows : Type 0
FirstReportsHaveTheFirstRows = (bounds : Bounds) (budget : Budget) (source target : Module)
    (text whole_text : List ℕ) (status whole_status : ℕ) → AreInRange bounds budget
    → (report : IsDefinedReport true bounds budget source target text status)
    → (whole : IsDefinedReport false bounds budget source target whole_text whole_status)
    → report.rows ≡ first_rows whole.rows

-- two runs over the same files that stop at a fault of a module stop at one fault: the same file, the same position, the same reason
abbrev pub FaultsAreOne : Type 0
FaultsAreOne = (files : Files) (c : Check) (old new other_old other_new : ShelfState) (why other : Stop) → old.files ≡ Some files → other_old.files ≡ Some files → HasCause old new c why → HasCause other_old other_new c other → stop_status why ≡ 9 → stop_status other ≡ 9 → why ≡ other

-- and there is none where both files are modules
abbrev pub ModulesHaveNoFault : Type 0
ModulesHaveNoFault = (files : Files) (c : Check) (old new : ShelfState) (why : Stop) (source target : Module) → old.files ≡ Some files → HasModule (files c.source) source → HasModule (files c.target) target → HasCause old new c why → stop_status why ≢ 9

-- what `log` writes of the file that a check put for `--proof`
abbrev pub PutProofsAreVerified : Type 0
PutProofsAreVerified = (files : Files) (name : Text) (bounds : Bounds) (budget : Budget) (rows : List Row) (answers : List Judged) (status : ℕ) (old new : SinkState)
    → HoldsProof (Some name) bounds budget rows answers (Some files) → LogWritten files name status old new → IsVerifiedWhole (parts_of rows answers) status old new
