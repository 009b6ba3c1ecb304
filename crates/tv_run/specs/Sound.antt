-- What a report says of two modules, in terms of refinement: a row `correct` means that the
-- target's function refines the source's, a row `incorrect` gives a counterexample, each pair of
-- functions has its row up to where the report ends, and with status 0 each function of either module
-- is in a pair that refines.
use Rattle.std.specs.Prelude.{◌≡◌, ◌≤◌, ◌⊎◌, ℕ, Bool, true, false, All, List, Contains, Ok}
use Rattle.std.specs.List.{list_any}
use Rattle.tv_io.specs.Files.{Files}
use Rattle.tv_io.specs.State.{ShelfState, SinkState}
use Rattle.tv_io.specs.Taken.{IsWritten, IsCutOff}
use Rattle.ir_tree.specs.declared.name.Name.{Name}
use Rattle.ir_tree.specs.declared.tree.Function.{Function}
use Rattle.ir_tree.specs.declared.module.Entry.{Entry}
use Rattle.ir_tree.specs.declared.module.Module.{Module}
use Rattle.points.specs.declared.point.Bounds.{Bounds}
use Rattle.points.specs.declared.point.Point.{Point}
use Rattle.verdicts.specs.declared.verdict.Shown.{Shown}
use Rattle.verdicts.specs.Pair.{Functions, same_signature}
use Rattle.verdicts.specs.Laws.{Holds, IsCounterexample}
use Rattle.report.specs.declared.row.Finding.{Finding}
use Rattle.report.specs.declared.row.Finding.TheVariants as finding
use Rattle.report.specs.declared.row.Row.{Row}
use Rattle.report.specs.Rows.{ends}
use Rattle.report.specs.Text.{report_text}
use Rattle.report.specs.Status.{status_of}
use Rattle.tv_cli.specs.Words.{Check}
use Rattle.tv_run.specs.Files.{HasModule}
use Rattle.tv_run.specs.Stops.{IsNotPut}

-- the module has this function under the name
pub record HasFunction (m : Module) (name : Name) (f : Function) : Type 0 where
  pub entry : Entry
  pub there : Contains m.entries entry
  pub named : entry.name ≡ name
  pub accepted : entry.function ≡ Ok f

-- the functions of that name in both modules, with one signature
pub record IsPairNamed (source target : Module) (name : Name) (pair : Functions) : Type 0 where
  pub source_has : HasFunction source name pair.source
  pub target_has : HasFunction target name pair.target
  pub signature : same_signature pair.source pair.target ≡ true

-- the entry is this side of the pair of its name, and on every input within the bounds each run of
-- the target's function is allowed by a run of the source's
pub record IsRefined (bounds : Bounds) (source target : Module) (side : Functions → Function)
    (entry : Entry) : Type 0 where
  pub pair : Functions
  pub named : IsPairNamed source target entry.name pair
  pub entry_is : entry.function ≡ Ok (side pair)
  pub holds : Holds pair bounds

-- so is each function of either module: none is refused, and none is without its partner
pub record HoldsThroughout (bounds : Bounds) (source target : Module) : Type 0 where
  pub of_source : All (IsRefined bounds source target (λ pair. pair.source)) source.entries
  pub of_target : All (IsRefined bounds source target (λ pair. pair.target)) target.entries

-- correct, incorrect or unknown
abbrev pub HasVerdict : Finding → Type 0
HasVerdict finding.Correct = Unit {0}
HasVerdict (finding.Incorrect point shown) = Unit {0}
HasVerdict (finding.Unknown cause) = Unit {0}
HasVerdict _ = ⊥

pub record IsSound (first : Bool) (bounds : Bounds) (source target : Module) (rows : List Row) : Type 0 where
  -- a correct row: on every input within the bounds, each run of the target's function is allowed by a run of the source's
  pub correct : (row : Row) → Contains rows row → row.finding ≡ finding.Correct
      → (pair : Functions) × IsPairNamed source target row.name pair × Holds pair bounds
  -- an incorrect row: the target's run at this point is allowed by no run of the source
  pub incorrect : (row : Row) (point : Point) (shown : Shown) → Contains rows row → row.finding ≡ finding.Incorrect point shown
      → (pair : Functions) × IsPairNamed source target row.name pair × IsCounterexample pair bounds point
  -- a name has one pair
  pub one : (name : Name) (pair other : Functions) → IsPairNamed source target name pair → IsPairNamed source target name other → pair ≡ other
  -- no pair is left out, unless the report ends at a row
  pub whole : list_any (ends first) rows ≡ false → (name : Name) (pair : Functions) → IsPairNamed source target name pair
      → (row : Row) × Contains rows row × (row.name ≡ name) × HasVerdict row.finding
  -- status 0 says that of each function
  pub throughout : status_of rows ≡ 0 → HoldsThroughout bounds source target

-- ---- of two files

-- the text and the status of a report on the two files that a check names, with rows that are sound
pub record SaysRefinement (files : Files) (c : Check) (text : List ℕ) (status : ℕ) : Type 0 where
  pub source : Module
  pub target : Module
  pub source_is : HasModule (files c.source) source
  pub target_is : HasModule (files c.target) target
  pub rows : List Row
  pub sound : IsSound c.first c.bounds source target rows
  pub text_is : text ≡ report_text c.bounds c.budget c.first rows
  pub status_is : status ≡ status_of rows

-- such a report was written, and nothing else
pub record MeansRefinement (files : Files) (c : Check) (status : ℕ) (old new : SinkState) : Type 0 where
  pub text : List ℕ
  pub says : SaysRefinement files c text status
  pub written : IsWritten text old new

-- the sink had no room for such a report, and took a prefix
pub record PartlyMeansRefinement (files : Files) (c : Check) (old new : SinkState) : Type 0 where
  pub text : List ℕ
  pub status : ℕ
  pub says : SaysRefinement files c text status
  pub cut_off : IsCutOff text old new

-- what a check writes, by status: such a report, or with status 7 a prefix of one, or nothing of it
pub record WritesSound (files : Files) (c : Check) (result : ℕ)
    (shelf_old shelf_new : ShelfState) (out_old out_new : SinkState) : Type 0 where
  pub whole : result ≤ 3 → MeansRefinement files c result out_old out_new
  pub part : result ≡ 7 → PartlyMeansRefinement files c out_old out_new
      ⊎ IsNotPut c.proof shelf_old shelf_new out_old out_new

-- each function of the modules of both files is refined, or refines its partner
pub record FilesRefine (files : Files) (c : Check) : Type 0 where
  pub source : Module
  pub target : Module
  pub source_is : HasModule (files c.source) source
  pub target_is : HasModule (files c.target) target
  pub holds : HoldsThroughout c.bounds source target
