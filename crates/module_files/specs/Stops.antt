-- Why two files are not judged, which status says so, and which line.
use Rattle.std.specs.Prelude.{◌≡◌, ◌⊎◌, ℕ, true, ◌+◌, List, [], ◌∷◌, ◌++◌, codes, Option}
use Rattle.std.specs.Fmt.{decimal}
use Rattle.text_places.specs.declared.place.Place.{Place}
use Rattle.tv_io.specs.Count.{Rose, RoseBy}
use Rattle.tv_io.specs.State.{ShelfState, SinkState}
use Rattle.tv_io.specs.Taken.{IsWritten, IsCutOff}
use Rattle.ir_items.specs.declared.fault.Why.{Why}
use Rattle.ir_items.specs.declared.fault.Why.TheVariants as why
use Rattle.ir_tree.specs.declared.module.Module.{Module}
use Rattle.ir_reader.specs.declared.fault.ModuleFault.TheVariants as fault
use Rattle.module_files.specs.declared.stop.Trouble.{Trouble}
use Rattle.module_files.specs.declared.stop.Trouble.TheVariants as trouble
use Rattle.module_files.specs.declared.stop.Stop.{Stop}
use Rattle.module_files.specs.declared.stop.Stop.TheVariants as stop
use Rattle.module_files.specs.Files.{text_limit, IsWithin, IsLonger, HasModule, HasFault, WhereKnown}

-- ---- causes

-- why the file of this name is not judged: a fetch of it failed, it is longer than the limit, or it has a fault
abbrev pub HasTrouble : ShelfState → ShelfState → List ℕ → Trouble → Type 0
HasTrouble old new name trouble.CannotRead = (old.may_fail name ≡ true) × Rose old.fetch_faults new.fetch_faults
HasTrouble old new name trouble.TooLong = RoseBy (text_limit + 1) old.bytes_taken new.bytes_taken × WhereKnown old.files (λ files. IsLonger (files name))
HasTrouble old new name (trouble.NoToken place) = WhereKnown old.files (λ files. HasFault (files name) (fault.NoToken place))
HasTrouble old new name (trouble.Item w place) = WhereKnown old.files (λ files. HasFault (files name) (fault.Item w place))

-- both files are fetched before either is parsed, so at a fault of the source the target is within the limit
abbrev pub IsBeforeSource : Option (List ℕ) → Trouble → Type 0
IsBeforeSource target trouble.CannotRead = Unit {0}
IsBeforeSource target trouble.TooLong = Unit {0}
IsBeforeSource target (trouble.NoToken place) = IsWithin target
IsBeforeSource target (trouble.Item w place) = IsWithin target

-- at a trouble of the target the source has none
abbrev pub IsBeforeTarget : Option (List ℕ) → Trouble → Type 0
IsBeforeTarget source trouble.CannotRead = IsWithin source
IsBeforeTarget source trouble.TooLong = IsWithin source
IsBeforeTarget source (trouble.NoToken place) = (m : Module) × HasModule source m
IsBeforeTarget source (trouble.Item w place) = (m : Module) × HasModule source m

-- of the files of these names the first cause, in the order fetch of the source, fetch of the target, source module, target module; out of memory has none
abbrev pub StopsAt : (old new : ShelfState) (source target : List ℕ) → Stop → Type 0
StopsAt old new source target (stop.Source t) = HasTrouble old new source t × WhereKnown old.files (λ files. IsBeforeSource (files target) t)
StopsAt old new source target (stop.Target t) = HasTrouble old new target t × WhereKnown old.files (λ files. IsBeforeTarget (files source) t)
StopsAt old new source target stop.NoMemory = Unit {0}

-- ---- statuses

abbrev pub trouble_status : Trouble → ℕ
trouble_status trouble.CannotRead = 5
trouble_status trouble.TooLong = 6
trouble_status (trouble.NoToken place) = 9
trouble_status (trouble.Item w place) = 9

abbrev pub stop_status : Stop → ℕ
stop_status (stop.Source t) = trouble_status t
stop_status (stop.Target t) = trouble_status t
stop_status stop.NoMemory = 8

-- ---- lines

abbrev pub why_text : Why → List ℕ
why_text why.NoItem = codes "no item"
why_text why.Bracket = codes "bracket"
why_text why.NoBody = codes "no body"
why_text why.TextEnds = codes "text ends"
why_text why.NameTwice = codes "name twice"
why_text why.TooManyFunctions = codes "too many functions"
why_text why.DataLayout = codes "data layout"

-- the file's name, line and column of a fault, and what it is
abbrev pub fault_line : List ℕ → Place → List ℕ → List ℕ
fault_line name place what = name ++ codes ":" ++ (decimal place.line ++ codes ":" ++ decimal place.column) ++ (codes ": " ++ what ++ 10 ∷ [])

-- the line of a file that is not judged
abbrev pub trouble_line : List ℕ → Trouble → List ℕ
trouble_line name trouble.CannotRead = codes "cannot read " ++ name ++ 10 ∷ []
trouble_line name trouble.TooLong = codes "too long " ++ name ++ 10 ∷ []
trouble_line name (trouble.NoToken place) = fault_line name place (codes "no token")
trouble_line name (trouble.Item w place) = fault_line name place (why_text w)

-- a line was written, or cut off by the sink
abbrev pub WritesLine : List ℕ → SinkState → SinkState → Type 0
WritesLine line old new = IsWritten line old new ⊎ IsCutOff line old new

-- of the files of these names, the line of the one that stops; nothing where memory ran out
abbrev pub SaysStop : (source target : List ℕ) → Stop → SinkState → SinkState → Type 0
SaysStop source target (stop.Source t) old new = WritesLine (trouble_line source t) old new
SaysStop source target (stop.Target t) old new = WritesLine (trouble_line target t) old new
SaysStop source target stop.NoMemory old new = new ≡ old
