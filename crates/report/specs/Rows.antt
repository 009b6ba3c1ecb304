-- Which rows two modules have, by what a judge may report of a pair.
use Rattle.std.specs.Prelude.{◌≡◌, ◌&&◌, List, [], ◌∷◌, ◌++◌, Option, Some, None, Result, Ok, Err, Bool, true, false, is_some, if◌then◌else◌}
use Rattle.std.specs.List.{list_any}
use Rattle.ir_tree.specs.declared.name.Name.{Name}
use Rattle.ir_tree.specs.declared.tree.Function.{Function}
use Rattle.ir_tree.specs.declared.module.Refused.{Refused}
use Rattle.ir_tree.specs.declared.module.Entry.{Entry}
use Rattle.ir_tree.specs.declared.module.Module.{Module}
use Rattle.ir_tree.specs.Names.{same_name}
use Rattle.points.specs.declared.point.Bounds.{Bounds}
use Rattle.points.specs.declared.point.Budget.{Budget}
use Rattle.verdicts.specs.declared.verdict.Verdict.{Verdict}
use Rattle.verdicts.specs.declared.verdict.Verdict.TheVariants as verdict
use Rattle.verdicts.specs.Pair.{Functions, same_signature}
use Rattle.points.specs.Range.{AreInRange}
use Rattle.verdicts.specs.Shown.{IsShown}
use Rattle.verdicts.specs.Trail.{IsVerdict}
use Rattle.report.specs.declared.row.Side.TheVariants as side
use Rattle.report.specs.declared.row.Finding.{Finding}
use Rattle.report.specs.declared.row.Finding.TheVariants as finding
use Rattle.report.specs.declared.row.Row.{Row}
use Rattle.report.specs.declared.status.Class.TheVariants as class
use Rattle.report.specs.Status.{is_of_class}

-- what a name denotes: the first function of that name, or why it is refused
abbrev pub function_named : List Entry → Name → Option (Result Function Refused)
function_named [] name = None
function_named (e ∷ es) name = if same_name name e.name then Some e.function else function_named es name

-- a verdict that the judge may report of the pair, with what a counterexample shows
abbrev pub IsJudged : (Functions → Verdict → Type 0) → Bounds → Functions → Finding → Type 0
IsJudged tells bounds pair finding.Correct = tells pair verdict.Correct
IsJudged tells bounds pair (finding.Incorrect point shown) = tells pair (verdict.Incorrect point) × IsShown pair bounds point shown
IsJudged tells bounds pair (finding.Unknown cause) = tells pair (verdict.Unknown cause)
IsJudged tells bounds pair _ = ⊥

-- a pair is judged where its signatures are equal
abbrev pub IsCompared : (Functions → Verdict → Type 0) → Bounds → Functions → Bool → Finding → Type 0
IsCompared tells bounds pair true found = IsJudged tells bounds pair found
IsCompared tells bounds pair false found = found ≡ finding.Signature

-- what is found of a function of the source, where the target has this under its name, or nothing
abbrev pub IsFinding : (Functions → Verdict → Type 0) → Bounds → Result Function Refused → Option (Result Function Refused) → Finding → Type 0
IsFinding tells bounds source None found = found ≡ finding.Missing
IsFinding tells bounds (Err refused) (Some target) found = found ≡ finding.Refused side.Source refused
IsFinding tells bounds (Ok f) (Some (Err refused)) found = found ≡ finding.Refused side.Target refused
IsFinding tells bounds (Ok f) (Some (Ok g)) found = IsCompared tells bounds (record { source = f; target = g }) (same_signature f g) found

pub record IsRow (tells : Functions → Verdict → Type 0) (bounds : Bounds) (targets : List Entry) (source : Entry) (row : Row) : Type 0 where
  pub name : row.name ≡ source.name
  pub found : IsFinding tells bounds source.function (function_named targets source.name) row.finding

-- whether a report ends at the row: at its first incorrect one, where it is to end there
abbrev pub ends : Bool → Row → Bool
ends first row = first && is_of_class class.Incorrect row.finding

-- where the report ends nothing is left, and else `Rest` holds of what is left
abbrev pub GoesOn : {X : Type 0} → (ended : Bool) → List X → (Rest : Type 0) → Type 0
GoesOn true left Rest = left ≡ []
GoesOn false left Rest = Rest

-- a row for each function of the source, in text order, up to the one that ends the report
abbrev pub AreSourceRows : Bool → (Functions → Verdict → Type 0) → Bounds → List Entry → List Entry → List Row → Type 0
AreSourceRows first tells bounds targets [] [] = Unit {0}
AreSourceRows first tells bounds targets (source ∷ sources) (row ∷ rows) =
    IsRow tells bounds targets source row × GoesOn (ends first row) rows (AreSourceRows first tells bounds targets sources rows)
AreSourceRows first tells bounds targets _ _ = ⊥

abbrev pub extra_row : Entry → Row
extra_row target = record { name = target.name; finding = finding.Extra }

-- a row for each function of the target whose name the source does not have, in text order
abbrev pub extra_rows : List Entry → List Entry → List Row
extra_rows sources [] = []
extra_rows sources (target ∷ targets) = if is_some (function_named sources target.name) then extra_rows sources targets else extra_row target ∷ extra_rows sources targets

-- those of the source, then those of the target where none of the source ends the report
pub record AreRows (first : Bool) (tells : Functions → Verdict → Type 0) (bounds : Bounds) (source target : Module) (rows : List Row) : Type 0 where
  pub judged : List Row
  pub each : AreSourceRows first tells bounds target.entries source.entries judged
  pub all : rows ≡ judged ++ (if list_any (ends first) judged then [] else extra_rows source.entries target.entries)

-- with the verdicts by their definition two modules have at most one list of rows
abbrev pub RowsAreOne : Type 0
RowsAreOne = (first : Bool) (bounds : Bounds) (budget : Budget) (source target : Module) (rows others : List Row) → AreInRange bounds budget
    → AreRows first (λ pair v. IsVerdict pair bounds budget v) bounds source target rows → AreRows first (λ pair v. IsVerdict pair bounds budget v) bounds source target others → rows ≡ others

-- ---- the first incorrect row

-- the rows up to and with the first incorrect one, or all where none is incorrect
abbrev pub first_rows : List Row → List Row
first_rows [] = []
first_rows (row ∷ rows) = row ∷ (if ends true row then [] else first_rows rows)

-- and these are the rows of a report that ends there
abbrev pub FirstRowsAreTheFirst : Type 0
FirstRowsAreTheFirst = (bounds : Bounds) (budget : Budget) (source target : Module) (rows all : List Row) → AreInRange bounds budget
    → AreRows true (λ pair v. IsVerdict pair bounds budget v) bounds source target rows → AreRows false (λ pair v. IsVerdict pair bounds budget v) bounds source target all → rows ≡ first_rows all
