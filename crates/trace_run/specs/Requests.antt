-- What a request is answered.
use Rattle.std.specs.Prelude.{◌≡◌, ◌≢◌, ◌≤◌, ◌⊎◌, ℕ, List, [], ◌∷◌, ◌++◌, codes, map, string_bytes, Option, Some, None, option_map}
use Rattle.std.specs.Global.{Global, Vec}
use Rattle.std.specs.declared.string.String.{String}
use Rattle.tv_io.specs.Files.{Files}
use Rattle.tv_io.specs.State.{ShelfState, SinkState}
use Rattle.tv_io.specs.Taken.{IsWritten, IsCutOff}
use Rattle.ir_tree.specs.declared.module.Entry.{Entry}
use Rattle.ir_tree.specs.Names.{same_name}
use Rattle.ir_reader.specs.Judgeable.{IsJudgeableEntry}
use Rattle.module_files.specs.declared.both.Modules.{Modules}
use Rattle.module_rows.specs.Searching.{entry_names}
use Rattle.module_files.specs.Files.{HasModule, WhereKnown}
use Rattle.module_files.specs.Stops.{WritesLine}
use Rattle.trace_cli.specs.Words.{Request, request_of}
use Rattle.std.specs.List.{IsDistinct, AllByRecursion}
use Rattle.trace_run.specs.declared.explaining.Explanation.{Explanation}
use Rattle.trace_run.specs.Named.{entry_named}
use Rattle.trace_run.specs.declared.halt.Halt.{Halt}
use Rattle.trace_run.specs.Halts.{HaltsAt, SaysHalt, halt_status, report_in}
use Rattle.trace_run.specs.Reported.{IsAnswered}

-- the request that a command line is, if it is one
abbrev pub request_in : List (String Global) → Option Request
request_in arguments = request_of (map string_bytes arguments)

-- a fact of the files and of the request, where the files are known
abbrev pub WhereAsked : Option Files → Option Request → (Files → Request → Type 0) → Type 0
WhereAsked known request P = (files : Files) (r : Request) → known ≡ Some files → request ≡ Some r → P files r

-- ---- explained

-- the text of the function of the request's name, of two modules and a report, if there is one
pub record ExplainsIn (r : Request) (report : Option (List ℕ)) (both : Modules) (text : List ℕ) (status : ℕ) : Type 0 where
  pub entry : Entry
  pub named : entry_named both.source.entries r.function ≡ Some entry
  pub is : IsAnswered r.bounds r.budget report both.target.entries entry text status

-- and of the modules of the request's two files, and the report that it names, if it names one
pub record Explains (files : Files) (r : Request) (text : List ℕ) (status : ℕ) : Type 0 where
  pub both : Modules
  pub source_is : HasModule (files r.source) both.source
  pub target_is : HasModule (files r.target) both.target
  pub explains : ExplainsIn r (report_in files r.report) both text status

-- such a text was written, and nothing else
pub record WritesExplanation (files : Files) (r : Request) (status : ℕ) (old new : SinkState) : Type 0 where
  pub text : List ℕ
  pub explains : Explains files r text status
  pub written : IsWritten text old new

-- the sink had no room for such a text, and took a prefix
pub record WritesPart (files : Files) (r : Request) (old new : SinkState) : Type 0 where
  pub text : List ℕ
  pub status : ℕ
  pub explains : Explains files r text status
  pub cut_off : IsCutOff text old new

-- ---- not explained

-- the arguments are rejected: where they are no request, and only there, unless memory runs out
pub record RejectsWords (request : Option Request) (result : ℕ) (old new : SinkState) : Type 0 where
  pub no_request : result ≡ 4 → request ≡ None
  pub all : request ≡ None → (result ≡ 4) ⊎ (result ≡ 8)
  pub line : result ≡ 4 → WritesLine (codes "words refused" ++ 10 ∷ []) old new

-- a file is not read or not judged, with its cause, its status and its line
pub record RefusesAsked (r : Request) (shelf_old shelf_new : ShelfState) (out_old out_new : SinkState) (status : ℕ) : Type 0 where
  pub why : Halt
  pub cause : HaltsAt r shelf_old shelf_new why
  pub status_is : status ≡ halt_status why
  pub says : SaysHalt r why out_old out_new

pub record Refuses (request : Option Request) (shelf_old shelf_new : ShelfState) (out_old out_new : SinkState) (status : ℕ) : Type 0 where
  pub r : Request
  pub request_is : request ≡ Some r
  pub refuses : RefusesAsked r shelf_old shelf_new out_old out_new status

-- the line of a name that no function of the source has
abbrev pub missing_line : Request → List ℕ
missing_line r = codes "no function " ++ r.function ++ (codes " in " ++ r.source ++ 10 ∷ [])

-- both files are modules, and the source's has no function of the name
pub record HasNoFunction (files : Files) (r : Request) : Type 0 where
  pub both : Modules
  pub source_is : HasModule (files r.source) both.source
  pub target_is : HasModule (files r.target) both.target
  pub none : entry_named both.source.entries r.function ≡ None

-- so the line of the name is written
pub record LacksAsked (r : Request) (known : Option Files) (out_old out_new : SinkState) : Type 0 where
  pub lacks : WhereKnown known (λ files. HasNoFunction files r)
  pub says : WritesLine (missing_line r) out_old out_new

pub record LacksFunction (request : Option Request) (known : Option Files) (out_old out_new : SinkState) : Type 0 where
  pub r : Request
  pub request_is : request ≡ Some r
  pub lacks : LacksAsked r known out_old out_new

-- ---- counts

-- no failure is counted but the one that the status reports
pub record CountsNoOther (result : ℕ) (shelf_old shelf_new : ShelfState) (out_old out_new : SinkState) : Type 0 where
  pub fetches : result ≢ 5 → shelf_new.fetch_faults ≡ shelf_old.fetch_faults
  pub puts : shelf_new.put_faults ≡ shelf_old.put_faults
  pub writes : result ≤ 3 → out_new.faults ≡ out_old.faults

-- ---- what is found of a request

-- the judge takes the functions of both modules, and the names of the target's are distinct
pub record AreJudgeable (both : Modules) : Type 0 where
  pub source : AllByRecursion IsJudgeableEntry both.source.entries
  pub target : AllByRecursion IsJudgeableEntry both.target.entries
  pub distinct : IsDistinct same_name (entry_names both.target.entries)

-- the bytes of a text, where there is one
abbrev pub bytes_of : Option (Vec ℕ) → Option (List ℕ)
bytes_of text = option_map (λ t. t.items) text

-- an explanation, or the source has no function of the name
abbrev pub IsFoundIn : Request → Option (List ℕ) → Modules → Option Explanation → Type 0
IsFoundIn r report both None = entry_named both.source.entries r.function ≡ None
IsFoundIn r report both (Some e) = ExplainsIn r report both e.text.items e.status

abbrev pub IsFound : Files → Request → Option Explanation → Type 0
IsFound files r None = HasNoFunction files r
IsFound files r (Some e) = Explains files r e.text.items e.status

-- the sink took the whole text, or was cut off at it, which is status 7
abbrev pub IsSent : (status result : ℕ) → List ℕ → SinkState → SinkState → Type 0
IsSent status result text old new = ((result ≡ status) × IsWritten text old new) ⊎ ((result ≡ 7) × IsCutOff text old new)
