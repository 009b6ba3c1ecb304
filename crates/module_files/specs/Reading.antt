-- What loading and parsing answer.
use Rattle.std.specs.Prelude.{◌≡◌, ◌<◌, ◌≤◌, ℕ, List, length, map, Option, Some, Result, Ok, Err}
use Rattle.std.specs.List.{IsDistinct, AllByRecursion}
use Rattle.std.specs.Global.{Vec}
use Rattle.tv_io.specs.Count.{Rose}
use Rattle.tv_io.specs.Files.{Files}
use Rattle.tv_io.specs.State.{ShelfState}
use Rattle.ir_tree.specs.Names.{same_name}
use Rattle.ir_tree.specs.declared.module.Entry.{Entry}
use Rattle.ir_tree.specs.declared.module.Module.{Module}
use Rattle.ir_reader.specs.declared.fault.ModuleFault.TheVariants as fault
use Rattle.ir_reader.specs.Judgeable.{IsJudgeableEntry}
use Rattle.ir_reader.specs.Module.{IsModule, IsFault}
use Rattle.module_files.specs.declared.stop.Trouble.{Trouble}
use Rattle.module_files.specs.declared.stop.Trouble.TheVariants as trouble
use Rattle.module_files.specs.declared.stop.LoadFault.{LoadFault}
use Rattle.module_files.specs.declared.stop.LoadFault.TheVariants as loading
use Rattle.module_files.specs.declared.stop.Stop.{Stop}
use Rattle.module_files.specs.declared.stop.Stop.TheVariants as stop
use Rattle.module_files.specs.declared.both.Modules.{Modules}
use Rattle.module_files.specs.Files.{text_limit, HasModule, WhereKnown}
use Rattle.module_files.specs.Stops.{HasTrouble}

-- ---- loading a file

-- the troubles of a file that has no text
abbrev pub IsUnloaded : Trouble → Type 0
IsUnloaded trouble.CannotRead = Unit {0}
IsUnloaded trouble.TooLong = Unit {0}
IsUnloaded _ = ⊥

-- the text of the file, or why there is none
abbrev pub Loads : ShelfState → ShelfState → List ℕ → Result (Vec ℕ) LoadFault → Type 0
Loads old new name (Ok text) = WhereKnown old.files (λ files. (files name ≡ Some text.items) × (length text.items ≤ text_limit))
Loads old new name (Err (loading.Trouble t)) = HasTrouble old new name t × IsUnloaded t
Loads old new name (Err loading.NoMemory) = Unit {0}

-- only a failed fetch is counted
abbrev pub CountsLoad : Result (Vec ℕ) LoadFault → ShelfState → ShelfState → Type 0
CountsLoad (Err (loading.Trouble trouble.CannotRead)) old new = Rose old.fetch_faults new.fetch_faults
CountsLoad _ old new = new.fetch_faults ≡ old.fetch_faults

-- ---- parsing it

-- a trouble that reports a fault of this text
abbrev pub IsFaultOf : List ℕ → Trouble → Type 0
IsFaultOf text (trouble.NoToken place) = IsFault text (fault.NoToken place)
IsFaultOf text (trouble.Item w place) = IsFault text (fault.Item w place)
IsFaultOf text _ = ⊥

-- a module of the text, whose functions the judge takes, and whose names are distinct
pub record IsParsed (text : List ℕ) (m : Module) : Type 0 where
  pub formed : IsModule text m
  pub judgeable : AllByRecursion IsJudgeableEntry m.entries
  pub distinct : IsDistinct same_name (map (λ (e : Entry). e.name) m.entries)

-- the module of a text, or why there is none
abbrev pub Parses : List ℕ → Result Module LoadFault → Type 0
Parses text (Ok m) = IsParsed text m
Parses text (Err (loading.Trouble t)) = IsFaultOf text t
Parses text (Err loading.NoMemory) = Unit {0}

-- ---- both files

abbrev pub stop_at_source : LoadFault → Stop
stop_at_source (loading.Trouble t) = stop.Source t
stop_at_source loading.NoMemory = stop.NoMemory

abbrev pub stop_at_target : LoadFault → Stop
stop_at_target (loading.Trouble t) = stop.Target t
stop_at_target loading.NoMemory = stop.NoMemory

-- the first fault of two files' texts, the source's before the target's; out of memory needs none
abbrev pub IsUnread : List ℕ → List ℕ → Stop → Type 0
IsUnread source target (stop.Source t) = IsFaultOf source t
IsUnread source target (stop.Target t) = IsFaultOf target t × (m : Module) × IsModule source m
IsUnread source target stop.NoMemory = Unit {0}

-- the modules of both texts
pub record AreParsed (source target : List ℕ) (both : Modules) : Type 0 where
  pub source_is : IsParsed source both.source
  pub target_is : IsParsed target both.target

-- the modules of the files of these names
pub record AreRead (known : Option Files) (source target : List ℕ) (both : Modules) : Type 0 where
  pub source_text : List ℕ
  pub target_text : List ℕ
  pub parsed : AreParsed source_text target_text both
  pub source_is : WhereKnown known (λ files. HasModule (files source) both.source)
  pub target_is : WhereKnown known (λ files. HasModule (files target) both.target)

-- a stop at a failed fetch is counted, and no other
abbrev pub CountsStop : Stop → ShelfState → ShelfState → Type 0
CountsStop (stop.Source trouble.CannotRead) old new = Rose old.fetch_faults new.fetch_faults
CountsStop (stop.Target trouble.CannotRead) old new = Rose old.fetch_faults new.fetch_faults
CountsStop _ old new = new.fetch_faults ≡ old.fetch_faults

-- ---- two texts in place of files

pub record AreWithin (source target : List ℕ) : Type 0 where
  pub source_within : length source ≤ text_limit
  pub target_within : length target ≤ text_limit

-- the first cause that keeps two texts from being judged: the source is too long, the target is, or the
-- first fault of both, which are within the limit; out of memory has none
abbrev pub StopsAtTexts : (source target : List ℕ) → Stop → Type 0
StopsAtTexts source target (stop.Source trouble.TooLong) = text_limit < length source
StopsAtTexts source target (stop.Target trouble.TooLong) = (length source ≤ text_limit) × (text_limit < length target)
StopsAtTexts source target stop.NoMemory = Unit {0}
StopsAtTexts source target why = AreWithin source target × IsUnread source target why
