-- The report of two files, and its proof file.
use Rattle.std.specs.Prelude.{◌≡◌, ◌⊎◌, ℕ, Bool, All, List, map, Option, Some, None, option_map}
use Rattle.std.specs.List.{filter_map}
use Rattle.tv_io.specs.Files.{Files, HoldsFile}
use Rattle.tv_io.specs.State.{ShelfState, SinkState}
use Rattle.tv_io.specs.Taken.{IsWritten, IsCutOff}
use Rattle.ir_tree.specs.declared.module.Module.{Module}
use Rattle.points.specs.declared.point.Bounds.{Bounds}
use Rattle.points.specs.declared.point.Budget.{Budget}
use Rattle.verdicts.specs.Trail.{IsVerdict}
use Rattle.pair_driver.specs.declared.judged.Judged.{Judged}
use Rattle.report.specs.declared.row.Row.{Row}
use Rattle.report.specs.Rows.{AreRows}
use Rattle.report.specs.Text.{report_text}
use Rattle.report.specs.Status.{status_of}
use Rattle.clause_log.specs.Refutation.{Refutes}
use Rattle.ir_naming.specs.Naming.{name_text}
use Rattle.proof_text.specs.declared.part.Head.{Head}
use Rattle.proof_text.specs.declared.part.Part.{Part}
use Rattle.proof_text.specs.Format.{IsProof, proof_with}
use Rattle.proof_files.specs.Parts.{decided, parts_of}
use Rattle.tv_cli.specs.Words.{Text, Check}
use Rattle.tv_run.specs.Files.{HasModule}
use Rattle.tv_run.specs.Stops.{IsNotPut}
use Rattle.module_rows.specs.Judging.{may_answer, ReportOwnAnswers}

-- the rows of two modules within bounds and a budget, as a text and as a status, with the judge's own answer for each row that has a verdict; they end at the first incorrect row where `first` says so
pub record IsReport (first : Bool) (bounds : Bounds) (budget : Budget) (source target : Module) (answers : List Judged) (text : List ℕ) (status : ℕ) : Type 0 where
  pub rows : List Row
  pub are_rows : AreRows first (may_answer bounds budget) bounds source target rows
  pub answered : ReportOwnAnswers bounds budget target.entries source.entries are_rows.judged answers
  pub text_is : text ≡ report_text bounds budget first rows
  pub status_is : status ≡ status_of rows

-- the report of the two files that a check names, within its bounds and its budget
pub record Reports (files : Files) (c : Check) (answers : List Judged) (text : List ℕ) (status : ℕ) : Type 0 where
  pub source : Module
  pub target : Module
  pub source_is : HasModule (files c.source) source
  pub target_is : HasModule (files c.target) target
  pub report : IsReport c.first c.bounds c.budget source target answers text status

-- ---- its proof file

-- the name of a part's row as it is printed, and whether it is of a correct row
abbrev pub part_heading : Part → List ℕ × Bool
part_heading p = (p.name, p.is_correct)

-- likewise of a row that is correct or incorrect
abbrev pub row_heading : Row → Option (List ℕ × Bool)
row_heading row = option_map (λ is_correct. (name_text row.name, is_correct)) (decided row.finding)

-- the bounds and the budget, as a proof file says them
abbrev pub head_of : Bounds → Budget → Head
head_of bounds budget =
    record { turns = bounds.turns; blocks = bounds.blocks; bytes = bounds.bytes; rounds = budget.rounds; conflicts = budget.conflicts; weight = budget.weight }

-- the bounds and the budget, and a part for each correct and each incorrect row, in order, and each part's log refutes its clauses
pub record IsProofFile (bounds : Bounds) (budget : Budget) (rows : List Row) (answers : List Judged) (text : List ℕ) : Type 0 where
  pub each : map part_heading (parts_of rows answers) ≡ filter_map row_heading rows
  pub parts : IsProof text (proof_with (Some (head_of bounds budget)) (parts_of rows answers))
  pub refute : All (λ p. Refutes p.cert.cnf.clauses p.cert.log) (parts_of rows answers)

-- the file that `--proof` names holds it
abbrev pub HoldsProof : Option Text → Bounds → Budget → List Row → List Judged → Option Files → Type 0
HoldsProof None bounds budget rows answers after = Unit {0}
HoldsProof (Some name) bounds budget rows answers after = (text : List ℕ) × HoldsFile after name text × IsProofFile bounds budget rows answers text

-- ---- what is written

-- the sink took the report that the command line asks for, and nothing else; the proof file was put
pub record Written (files : Files) (c : Check) (status : ℕ) (answers : List Judged) (after : Option Files) (old new : SinkState) : Type 0 where
  pub text : List ℕ
  pub reports : Reports files c answers text status
  pub put : HoldsProof c.proof c.bounds c.budget reports.report.rows answers after
  pub written : IsWritten text old new

-- the proof file was put, and the sink had no room for the report, and took a prefix
pub record PartlyWritten (files : Files) (c : Check) (answers : List Judged) (after : Option Files) (old new : SinkState) : Type 0 where
  pub text : List ℕ
  pub status : ℕ
  pub reports : Reports files c answers text status
  pub put : HoldsProof c.proof c.bounds c.budget reports.report.rows answers after
  pub cut_off : IsCutOff text old new

-- these are the judge's answers on the two files
abbrev pub IsJudgedSo : Files → Check → List Judged → Type 0
IsJudgedSo files c answers = (text : List ℕ) × (status : ℕ) × Reports files c answers text status

-- the report was made, and not written whole: the sink had no room for it, or the proof file could
-- not be put
pub record IsUnfinished (files : Files) (c : Check) (answers : List Judged)
    (shelf_old shelf_new : ShelfState) (out_old out_new : SinkState) : Type 0 where
  pub judged : IsJudgedSo files c answers
  pub stopped : PartlyWritten files c answers shelf_new.files out_old out_new
      ⊎ IsNotPut c.proof shelf_old shelf_new out_old out_new

-- ---- without a limit on conflicts

-- the rows that the definition of a verdict gives two modules, as a text and as a status
pub record IsDefinedReport (first : Bool) (bounds : Bounds) (budget : Budget) (source target : Module) (text : List ℕ) (status : ℕ) : Type 0 where
  pub rows : List Row
  pub are_rows : AreRows first (λ pair v. IsVerdict pair bounds budget v) bounds source target rows
  pub text_is : text ≡ report_text bounds budget first rows
  pub status_is : status ≡ status_of rows

-- those of the modules of the two files that a check names
pub record HasDefinedReport (files : Files) (c : Check) (text : List ℕ) (status : ℕ) : Type 0 where
  pub source : Module
  pub target : Module
  pub source_is : HasModule (files c.source) source
  pub target_is : HasModule (files c.target) target
  pub is : IsDefinedReport c.first c.bounds c.budget source target text status

-- and the files have no others
pub record IsTheDefinedReport (files : Files) (c : Check) (text : List ℕ) (status : ℕ)
    : Type 0 where
  pub defined : HasDefinedReport files c text status
  pub only : (other : List ℕ) (other_status : ℕ) → HasDefinedReport files c other other_status
      → (other ≡ text) × (other_status ≡ status)

-- the sink took exactly that text
pub record WritesDefinedReport (files : Files) (c : Check) (status : ℕ) (old new : SinkState)
    : Type 0 where
  pub text : List ℕ
  pub report : IsTheDefinedReport files c text status
  pub written : IsWritten text old new
