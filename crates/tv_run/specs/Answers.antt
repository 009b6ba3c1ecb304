-- What the steps of a run answer.
use Rattle.std.specs.Prelude.{◌≡◌, ◌≤◌, ◌⊎◌, ℕ, List, length, Option, Some, None, Result, Ok, Err}
use Rattle.std.specs.List.{IsDistinct, AllByRecursion}
use Rattle.std.specs.Global.{Vec}
use Rattle.tv_io.specs.Count.{Rose}
use Rattle.tv_io.specs.Files.{Files, HoldsFile}
use Rattle.tv_io.specs.State.{ShelfState, SinkState}
use Rattle.tv_io.specs.Taken.{IsWritten, IsCutOff}
use Rattle.ir_tree.specs.Names.{same_name}
use Rattle.ir_tree.specs.declared.module.Module.{Module}
use Rattle.ir_reader.specs.Judgeable.{IsJudgeableEntry}
use Rattle.points.specs.declared.point.Bounds.{Bounds}
use Rattle.points.specs.declared.point.Budget.{Budget}
use Rattle.pair_driver.specs.declared.judged.Judged.{Judged}
use Rattle.report.specs.declared.row.Row.{Row}
use Rattle.report.specs.Text.{report_text}
use Rattle.report.specs.Status.{status_of}
use Rattle.proof_text.specs.declared.part.Proof.{Proof}
use Rattle.proof_text.specs.declared.part.ProofFault.TheVariants as proof_fault
use Rattle.proof_text.specs.FirstFault.{IsFaultOf as IsWrongLine}
use Rattle.proof_files.specs.Parts.{IsReadName}
use Rattle.tv_cli.specs.Words.{Text, Check, Job}
use Rattle.tv_cli.specs.Words.Job.{check, log}
use Rattle.tv_run.specs.Files.{proof_limit, HasModule, HasProof, WhereKnown}
use Rattle.tv_run.specs.Jobs.{OfMake}
use Rattle.tv_run.specs.Reports.{Reports, IsReport, IsProofFile}
use Rattle.module_rows.specs.Searching.{entry_names}
use Rattle.tv_run.specs.declared.stop.LogTrouble.TheVariants as log_trouble
use Rattle.tv_run.specs.declared.stop.LogStop.{LogStop}
use Rattle.tv_run.specs.declared.stop.LogStop.TheVariants as log_stop
use Rattle.tv_run.specs.Stops.{HasLogTrouble, IsNotPut}
pub use Rattle.module_files.specs.Reading.{IsFaultOf, IsParsed, Parses, AreRead, CountsStop, AreWithin, AreParsed, IsUnread, StopsAtTexts}

-- ---- both files

-- a module that the judge takes: its names are distinct, and numbers among them have no leading zeros
pub record IsJudgeableModule (m : Module) : Type 0 where
  pub judgeable : AllByRecursion IsJudgeableEntry m.entries
  pub distinct : IsDistinct same_name (entry_names m.entries)
  pub named : AllByRecursion IsReadName (entry_names m.entries)

-- the files of the check are known, and both are modules
pub record AreModules (known : Option Files) (command : Option Job) : Type 0 where
  pub files : Files
  pub c : Check
  pub source : Module
  pub target : Module
  pub files_are : known ≡ Some files
  pub job_is : command ≡ Some (check c)
  pub source_is : HasModule (files c.source) source
  pub target_is : HasModule (files c.target) target

-- two files in memory are modules, no proof file is asked for, and the report fits into this room
pub record FitsIn (room : ℕ) (files : Files) (command : Option Job) : Type 0 where
  pub both : AreModules (Some files) command
  pub unput : both.c.proof ≡ None
  pub fits : (answers : List Judged) (text : List ℕ) (status : ℕ) → Reports files both.c answers text status → length text ≤ room

-- the file that the job checks is known, and is a proof file
pub record IsKnownProof (known : Option Files) (command : Option Job) : Type 0 where
  pub files : Files
  pub name : Text
  pub proof : Proof
  pub files_are : known ≡ Some files
  pub job_is : command ≡ Some (log name)
  pub proof_is : HasProof (files name) proof

-- which jobs are done: only a read or a write that fails, or memory that runs out, stops them
pub record Completes (known : Option Files) (command : Option Job) (result : ℕ) : Type 0 where
  pub checked : AreModules known command → (result ≤ 3) ⊎ (result ≡ 5) ⊎ (result ≡ 7) ⊎ (result ≡ 8)
  pub logged : IsKnownProof known command → (result ≤ 1) ⊎ (result ≡ 5) ⊎ (result ≡ 7) ⊎ (result ≡ 8)
  pub made : OfMake command (λ m. (result ≤ 3) ⊎ (result ≡ 7) ⊎ (result ≡ 8))

-- ---- the proof file of a report

-- its text, where one is asked for
abbrev pub IsProofAsked : Option Text → Bounds → Budget → List Row → List Judged → Option (Vec ℕ) → Type 0
IsProofAsked None bounds budget rows answers proof = Unit {0}
IsProofAsked (Some name) bounds budget rows answers None = ⊥
IsProofAsked (Some name) bounds budget rows answers (Some text) = IsProofFile bounds budget rows answers text.items

-- rows as a text and as a status, with the judge's answers on them, and with that text
pub record IsReportOn (c : Check) (rows : List Row) (judged answers : List Judged) (text : List ℕ) (status : ℕ) (proof : Option (Vec ℕ)) : Type 0 where
  pub answers_are : answers ≡ judged
  pub text_is : text ≡ report_text c.bounds c.budget c.first rows
  pub status_is : status ≡ status_of rows
  pub asked : IsProofAsked c.proof c.bounds c.budget rows judged proof

-- the report of two modules, with that text
pub record IsReportOf (c : Check) (source target : Module) (answers : List Judged) (text : List ℕ) (status : ℕ) (proof : Option (Vec ℕ)) : Type 0 where
  pub report : IsReport c.first c.bounds c.budget source target answers text status
  pub asked : IsProofAsked c.proof c.bounds c.budget report.rows answers proof

-- and of two files
pub record HasReport (files : Files) (c : Check) (answers : List Judged) (text : List ℕ) (status : ℕ) (proof : Option (Vec ℕ)) : Type 0 where
  pub reports : Reports files c answers text status
  pub asked : IsProofAsked c.proof c.bounds c.budget reports.report.rows answers proof

-- ---- delivering it

-- the sink took the whole text, or was cut off at it, which is status 7
abbrev pub IsSent : (status result : ℕ) → List ℕ → SinkState → SinkState → Type 0
IsSent status result text old new = ((result ≡ status) × IsWritten text old new) ⊎ ((result ≡ 7) × IsCutOff text old new)

-- the file of this name holds the text that was put
abbrev pub HoldsText : Option Text → Option (Vec ℕ) → Option Files → Type 0
HoldsText (Some name) (Some text) after = HoldsFile after name text.items
HoldsText _ _ after = Unit {0}

-- the proof file was put, if one is asked for, and the report sent
pub record IsPutAndSent (asked : Option Text) (proof : Option (Vec ℕ)) (text : List ℕ) (status result : ℕ) (shelf_old shelf_new : ShelfState) (out_old out_new : SinkState) : Type 0 where
  pub put : HoldsText asked proof shelf_new.files
  pub counted : shelf_new.put_faults ≡ shelf_old.put_faults
  pub sent : IsSent status result text out_old out_new

-- or the proof file could not be put, which is status 7
abbrev pub IsDelivered : (asked : Option Text) (proof : Option (Vec ℕ)) (text : List ℕ) (status result : ℕ) (shelf_old shelf_new : ShelfState) (out_old out_new : SinkState) → Type 0
IsDelivered asked proof text status result shelf_old shelf_new out_old out_new =
    IsPutAndSent asked proof text status result shelf_old shelf_new out_old out_new ⊎ ((result ≡ 7) × IsNotPut asked shelf_old shelf_new out_old out_new)

-- ---- checking a proof file

-- its bytes
abbrev pub LoadsProof : ShelfState → Text → Vec ℕ → Type 0
LoadsProof old name text = WhereKnown old.files (λ files. (files name ≡ Some text.items) × (length text.items ≤ proof_limit))

-- why it is not checked; out of memory needs no reason
abbrev pub IsLogStop : ShelfState → ShelfState → Text → LogStop → Type 0
IsLogStop old new name (log_stop.Trouble t) = HasLogTrouble old new name t
IsLogStop old new name log_stop.NoMemory = Unit {0}

-- a text that is no proof file
abbrev pub IsNoProof : List ℕ → LogStop → Type 0
IsNoProof text (log_stop.Trouble (log_trouble.Line line)) = IsWrongLine text (proof_fault.Line line)
IsNoProof text (log_stop.Trouble _) = ⊥
IsNoProof text log_stop.NoMemory = Unit {0}

-- only a failed fetch is counted
abbrev pub CountsLog : LogStop → ShelfState → ShelfState → Type 0
CountsLog (log_stop.Trouble log_trouble.CannotRead) old new = Rose old.fetch_faults new.fetch_faults
CountsLog _ old new = new.fetch_faults ≡ old.fetch_faults
