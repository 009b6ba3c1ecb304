-- Why there is no report, or no check of a proof file, which status says so, and which line.
use Rattle.std.specs.Prelude.{◌≡◌, ◌≢◌, ◌≤◌, ◌⊎◌, ℕ, true, ◌+◌, List, [], ◌∷◌, ◌++◌, codes, Option, Some, None}
use Rattle.std.specs.Fmt.{decimal}
use Rattle.tv_io.specs.Count.{Rose, RoseBy}
use Rattle.tv_io.specs.State.{ShelfState, SinkState}
use Rattle.module_files.specs.declared.stop.Stop.{Stop}
use Rattle.tv_run.specs.declared.stop.LogTrouble.{LogTrouble}
use Rattle.tv_run.specs.declared.stop.LogTrouble.TheVariants as log_trouble
use Rattle.tv_cli.specs.Words.{Text, Check, Job}
use Rattle.tv_cli.specs.Words.Job.{check, log, make}
use Rattle.tv_run.specs.Files.{proof_limit, IsLongerProof, HasWrongLine, WhereKnown}
use Rattle.module_files.specs.Stops.{StopsAt, SaysStop}
pub use Rattle.module_files.specs.Stops.{HasTrouble, IsBeforeSource, IsBeforeTarget, trouble_status, stop_status, WritesLine}

-- ---- causes

-- the first cause that keeps the files of a check from being judged
abbrev pub HasCause : ShelfState → ShelfState → Check → Stop → Type 0
HasCause old new c why = StopsAt old new c.source c.target why

-- why a proof file is not checked: a fetch of it failed, it is longer than the limit, or it is none, and this is the first line that shows it
abbrev pub HasLogTrouble : ShelfState → ShelfState → Text → LogTrouble → Type 0
HasLogTrouble old new name log_trouble.CannotRead = (old.may_fail name ≡ true) × Rose old.fetch_faults new.fetch_faults
HasLogTrouble old new name log_trouble.TooLong = RoseBy (proof_limit + 1) old.bytes_taken new.bytes_taken × WhereKnown old.files (λ files. IsLongerProof (files name))
HasLogTrouble old new name (log_trouble.Line line) = WhereKnown old.files (λ files. HasWrongLine (files name) line)

-- ---- statuses

abbrev pub log_trouble_status : LogTrouble → ℕ
log_trouble_status log_trouble.CannotRead = 5
log_trouble_status log_trouble.TooLong = 6
log_trouble_status (log_trouble.Line line) = 9

-- ---- lines

-- the file's name, the number of a line, and what is wrong with it
abbrev pub line_fault_line : List ℕ → ℕ → List ℕ → List ℕ
line_fault_line name line what = name ++ codes ":" ++ decimal line ++ (codes ": " ++ what ++ 10 ∷ [])

-- the line of a proof file that is not checked
abbrev pub log_trouble_line : List ℕ → LogTrouble → List ℕ
log_trouble_line name log_trouble.CannotRead = codes "cannot read " ++ name ++ 10 ∷ []
log_trouble_line name log_trouble.TooLong = codes "too long " ++ name ++ 10 ∷ []
log_trouble_line name (log_trouble.Line line) = line_fault_line name line (codes "proof text")

-- the line of a proof file that cannot be put
abbrev pub unput_line : List ℕ → List ℕ
unput_line name = codes "cannot write " ++ name ++ 10 ∷ []

-- the line of the file that stops the check; nothing where memory ran out
abbrev pub Says : Check → Stop → SinkState → SinkState → Type 0
Says c why old new = SaysStop c.source c.target why old new

-- ---- both commands

-- the check stops, with its cause, its status and its line
pub record Refuses (c : Check) (shelf_old shelf_new : ShelfState) (out_old out_new : SinkState) (status : ℕ) : Type 0 where
  pub why : Stop
  pub cause : HasCause shelf_old shelf_new c why
  pub status_is : status ≡ stop_status why
  pub says : Says c why out_old out_new

-- the proof file of this name is not checked
pub record RefusesLog (name : Text) (shelf_old shelf_new : ShelfState) (out_old out_new : SinkState) (status : ℕ) : Type 0 where
  pub why : LogTrouble
  pub cause : HasLogTrouble shelf_old shelf_new name why
  pub status_is : status ≡ log_trouble_status why
  pub says : WritesLine (log_trouble_line name why) out_old out_new

-- the job of the command line stops
abbrev pub RefusesJob : Option Job → (shelf_old shelf_new : ShelfState) (out_old out_new : SinkState) (status : ℕ) → Type 0
RefusesJob (Some (check c)) shelf_old shelf_new out_old out_new status = Refuses c shelf_old shelf_new out_old out_new status
RefusesJob (Some (log name)) shelf_old shelf_new out_old out_new status = RefusesLog name shelf_old shelf_new out_old out_new status
RefusesJob (Some (make m)) shelf_old shelf_new out_old out_new status = ⊥
RefusesJob None shelf_old shelf_new out_old out_new status = ⊥

-- the proof file could not be put: the failure was counted, and the sink took its line, or a prefix of it, and nothing of the report
pub record IsNotPut (asked : Option Text) (shelf_old shelf_new : ShelfState) (out_old out_new : SinkState) : Type 0 where
  pub name : Text
  pub asked_is : asked ≡ Some name
  pub counted : Rose shelf_old.put_faults shelf_new.put_faults
  pub says : WritesLine (unput_line name) out_old out_new

-- the sink failed, or the proof file that the job names could not be put
abbrev pub IsUnwritten : Option Job → (shelf_old shelf_new : ShelfState) (out_old out_new : SinkState) → Type 0
IsUnwritten (Some (check c)) shelf_old shelf_new out_old out_new = Rose out_old.faults out_new.faults ⊎ IsNotPut c.proof shelf_old shelf_new out_old out_new
IsUnwritten _ shelf_old shelf_new out_old out_new = Rose out_old.faults out_new.faults

-- ---- command lines

-- the arguments are rejected: where they ask for no job, and only there, unless memory runs out
pub record RejectsWords (command : Option Job) (result : ℕ) (old new : SinkState) : Type 0 where
  pub no_job : result ≡ 4 → command ≡ None
  pub all : command ≡ None → (result ≡ 4) ⊎ (result ≡ 8)
  pub line : result ≡ 4 → WritesLine (codes "words refused" ++ 10 ∷ []) old new

-- ---- counts

-- no failure is counted but the one that the status reports
pub record CountsNoOther (result : ℕ) (shelf_old shelf_new : ShelfState)
    (out_old out_new : SinkState) : Type 0 where
  pub fetches : result ≢ 5 → shelf_new.fetch_faults ≡ shelf_old.fetch_faults
  pub puts : result ≢ 7 → shelf_new.put_faults ≡ shelf_old.put_faults
  pub writes : result ≤ 3 → out_new.faults ≡ out_old.faults
