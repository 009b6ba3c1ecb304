-- Facts of the job that the command line asks for.
use Rattle.std.specs.Prelude.{◌≡◌, ◌≢◌, ◌<◌, ℕ, List, Option, Some, None, map, string_bytes}
use Rattle.std.specs.Global.{Global}
use Rattle.std.specs.declared.string.String.{String}
use Rattle.tv_io.specs.Files.{Files, SameElsewhere, SameFiles}
use Rattle.tv_cli.specs.Words.{Text, Check, Make, Job, job_of}
use Rattle.tv_cli.specs.Words.Job.{check, log, make}

-- the job that a command line asks for, if it asks for one
abbrev pub job_in : List (String Global) → Option Job
job_in arguments = job_of (map string_bytes arguments)

-- a fact of the files and of the check that the command line asks for, where the files are known
abbrev pub WhereChecked : Option Files → Option Job → (Files → Check → Type 0) → Type 0
WhereChecked known command P = (files : Files) (c : Check) → known ≡ Some files → command ≡ Some (check c) → P files c

-- a fact of the check that the command line asks for
abbrev pub OfCheck : Option Job → (Check → Type 0) → Type 0
OfCheck command P = (c : Check) → command ≡ Some (check c) → P c

-- a fact of the proof file that it asks to check
abbrev pub OfLog : Option Job → (Text → Type 0) → Type 0
OfLog command P = (name : Text) → command ≡ Some (log name) → P name

-- a fact of the pair of modules that it asks to make
abbrev pub OfMake : Option Job → (Make → Type 0) → Type 0
OfMake command P = (m : Make) → command ≡ Some (make m) → P m

-- ---- which files change

-- the file that `--proof` names, and no other
abbrev pub ProofChanges : Option Text → Option Files → Option Files → Type 0
ProofChanges None old new = new ≡ old
ProofChanges (Some name) old new = SameElsewhere name old new

-- no file of a job changes but that one
abbrev pub FileChanges : Option Job → Option Files → Option Files → Type 0
FileChanges (Some (check c)) old new = ProofChanges c.proof old new
FileChanges (Some (log name)) old new = new ≡ old
FileChanges (Some (make m)) old new = new ≡ old
FileChanges None old new = new ≡ old

-- and none where there is no report
pub record ChangesOnlyProof (command : Option Job) (result : ℕ) (old new : Option Files)
    : Type 0 where
  pub only : FileChanges command old new
  pub unreported : 3 < result → result ≢ 7 → SameFiles old new
