-- Why nothing is explained, which status says so, and which line.
use Rattle.std.specs.Prelude.{◌≡◌, ℕ, List, Option, Some, None, unwrap_or, []}
use Rattle.tv_io.specs.Count.{Rose}
use Rattle.tv_io.specs.Files.{Files}
use Rattle.tv_io.specs.State.{ShelfState, SinkState}
use Rattle.module_files.specs.declared.stop.Trouble.{Trouble}
use Rattle.module_files.specs.declared.stop.Trouble.TheVariants as trouble
use Rattle.module_files.specs.Files.{IsWithin, WhereKnown}
use Rattle.module_files.specs.Reading.{CountsStop, IsUnloaded}
use Rattle.module_files.specs.Stops.{HasTrouble, SaysStop, StopsAt, WritesLine, stop_status, trouble_line, trouble_status}
use Rattle.trace_cli.specs.Words.{Request}
use Rattle.trace_run.specs.declared.halt.Halt.{Halt}
use Rattle.trace_run.specs.declared.halt.Halt.TheVariants as halt

-- ---- the report that a request names

-- its bytes, where it names one
abbrev pub report_in : Files → Option (List ℕ) → Option (List ℕ)
report_in files None = None
report_in files (Some name) = files name

-- it can't be read, or is longer than the limit
abbrev pub ReportStops : Option (List ℕ) → ShelfState → ShelfState → Trouble → Type 0
ReportStops None old new t = ⊥
ReportStops (Some name) old new t = HasTrouble old new name t × IsUnloaded t

-- it is within the limit, or none is named
abbrev pub HasReport : Option (List ℕ) → Option Files → Type 0
HasReport None known = Unit {0}
HasReport (Some name) known = WhereKnown known (λ files. IsWithin (files name))

-- ---- causes

-- the first cause: the report is read before the modules; out of memory has none
abbrev pub HaltsAt : Request → ShelfState → ShelfState → Halt → Type 0
HaltsAt r old new (halt.Report t) = ReportStops r.report old new t
HaltsAt r old new (halt.Modules why) = StopsAt old new r.source r.target why × HasReport r.report old.files
HaltsAt r old new halt.NoMemory = Unit {0}

-- only a failed fetch is counted
abbrev pub CountsHalt : Halt → ShelfState → ShelfState → Type 0
CountsHalt (halt.Report trouble.CannotRead) old new = Rose old.fetch_faults new.fetch_faults
CountsHalt (halt.Modules why) old new = CountsStop why old new
CountsHalt _ old new = new.fetch_faults ≡ old.fetch_faults

-- ---- statuses and lines

abbrev pub halt_status : Halt → ℕ
halt_status (halt.Report t) = trouble_status t
halt_status (halt.Modules why) = stop_status why
halt_status halt.NoMemory = 8

-- the name of the report, empty where none is named
abbrev pub report_name : Request → List ℕ
report_name r = unwrap_or r.report []

-- the line of the file that is not read or not judged; nothing where memory ran out
abbrev pub SaysHalt : Request → Halt → SinkState → SinkState → Type 0
SaysHalt r (halt.Report t) old new = WritesLine (trouble_line (report_name r) t) old new
SaysHalt r (halt.Modules why) old new = SaysStop r.source r.target why old new
SaysHalt r halt.NoMemory old new = new ≡ old
