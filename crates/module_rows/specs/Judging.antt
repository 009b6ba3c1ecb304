-- Which pairs of two modules are judged, and what the judge answered of them.
use Rattle.std.specs.Prelude.{◌≡◌, ◌&&◌, Bool, List, [], ◌∷◌, drop, length, map, take, Option, Some, None, Result, Ok, Err, if◌then◌else◌}
use Rattle.std.specs.List.{flat_map}
use Rattle.ir_tree.specs.declared.tree.Function.{Function}
use Rattle.ir_tree.specs.declared.module.Refused.{Refused}
use Rattle.ir_tree.specs.declared.module.Entry.{Entry}
use Rattle.points.specs.declared.point.Bounds.{Bounds}
use Rattle.points.specs.declared.point.Budget.{Budget}
use Rattle.verdicts.specs.declared.verdict.Shown.{Shown}
use Rattle.verdicts.specs.declared.verdict.Verdict.{Verdict}
use Rattle.verdicts.specs.declared.verdict.Verdict.TheVariants as verdict
use Rattle.verdicts.specs.Pair.{Functions, same_signature}
use Rattle.verdicts.specs.Shown.{IsShown}
use Rattle.pair_driver.specs.declared.judged.Judged.{Judged}
use Rattle.pair_driver.specs.Incorrect.{is_incorrect}
use Rattle.pair_judge.specs.Answers.{IsAnswer}
use Rattle.pair_judge.specs.Laws.{MayBeTold}
use Rattle.report.specs.declared.row.Side.TheVariants as side
use Rattle.report.specs.declared.row.Finding.{Finding}
use Rattle.report.specs.declared.row.Finding.TheVariants as finding
use Rattle.report.specs.declared.row.Row.{Row}
use Rattle.report.specs.Rows.{GoesOn, function_named}

-- a function of the source and the target's of its name are judged where both are accepted and their signatures are equal
abbrev pub pairs_in : Result Function Refused → Option (Result Function Refused) → List Functions
pairs_in (Ok f) (Some (Ok g)) = if same_signature f g then record { source = f; target = g } ∷ [] else []
pairs_in _ _ = []

-- the pairs of these functions of the source, in text order
abbrev pub judged_pairs : List Entry → List Entry → List Functions
judged_pairs targets sources = flat_map (λ (source : Entry). pairs_in source.function (function_named targets source.name)) sources

-- the pair, where there is one
abbrev pub listed : Option Functions → List Functions
listed None = []
listed (Some pair) = pair ∷ []

-- what the judge may answer of a pair within bounds and a budget
abbrev pub may_answer : Bounds → Budget → Functions → Verdict → Type 0
may_answer bounds budget pair v = MayBeTold pair bounds budget v

-- an answer for each pair, in order
abbrev pub AreAnswers : Bounds → Budget → List Functions → List Judged → Type 0
AreAnswers bounds budget [] [] = Unit {0}
AreAnswers bounds budget (pair ∷ pairs) (answer ∷ answers) = IsAnswer pair bounds budget answer × AreAnswers bounds budget pairs answers
AreAnswers bounds budget _ _ = ⊥

-- an answer for each pair, in order, up to the first incorrect one where the report ends there
abbrev pub AreAnswersUpTo : (first : Bool) → Bounds → Budget → List Functions → List Judged → Type 0
AreAnswersUpTo first bounds budget [] [] = Unit {0}
AreAnswersUpTo first bounds budget (pair ∷ pairs) (answer ∷ answers) =
    IsAnswer pair bounds budget answer × GoesOn (first && is_incorrect answer) answers (AreAnswersUpTo first bounds budget pairs answers)
AreAnswersUpTo first bounds budget _ _ = ⊥

abbrev pub verdicts_in : Finding → List Verdict
verdicts_in finding.Correct = verdict.Correct ∷ []
verdicts_in (finding.Incorrect point shown) = verdict.Incorrect point ∷ []
verdicts_in (finding.Unknown cause) = verdict.Unknown cause ∷ []
verdicts_in _ = []

-- the verdicts of the rows that have one, in order
abbrev pub verdicts_of : List Row → List Verdict
verdicts_of rows = flat_map (λ (row : Row). verdicts_in row.finding) rows

abbrev pub verdicts_answered : List Judged → List Verdict
verdicts_answered answers = map (λ (answer : Judged). answer.verdict) answers

-- the first of the answers are for these pairs
abbrev pub HasNext : Bounds → Budget → List Functions → List Judged → Type 0
HasNext bounds budget pairs left = AreAnswers bounds budget pairs (take (length pairs) left)

-- as many answers as there are such pairs were taken, with these verdicts
pub record IsTaken (pairs : List Functions) (verdicts : List Verdict) (before after : List Judged) : Type 0 where
  pub left : after ≡ drop (length pairs) before
  pub reported : verdicts ≡ verdicts_answered (take (length pairs) before)

-- what is found of a function whose pair is not judged
abbrev pub IsUnjudged : Result Function Refused → Option (Result Function Refused) → Finding → Type 0
IsUnjudged source None found = found ≡ finding.Missing
IsUnjudged (Err refused) (Some target) found = found ≡ finding.Refused side.Source refused
IsUnjudged (Ok f) (Some (Err refused)) found = found ≡ finding.Refused side.Target refused
IsUnjudged (Ok f) (Some (Ok g)) found = found ≡ finding.Signature

-- the finding of a verdict, with what a counterexample shows
abbrev pub ShowsVerdict : Functions → Bounds → Verdict → Finding → Type 0
ShowsVerdict pair bounds verdict.Correct found = found ≡ finding.Correct
ShowsVerdict pair bounds (verdict.Incorrect point) found = (shown : Shown) × (found ≡ finding.Incorrect point shown) × IsShown pair bounds point shown
ShowsVerdict pair bounds (verdict.Unknown cause) found = found ≡ finding.Unknown cause

-- the finding of a pair that is judged has the verdict of the next answer, which is an answer on that pair; another finding has no verdict; `Left` holds of the answers that are left
abbrev pub ReportsNext : Bounds → Budget → List Functions → Finding → List Judged → (List Judged → Type 0) → Type 0
ReportsNext bounds budget [] found answers Left = (verdicts_in found ≡ []) × Left answers
ReportsNext bounds budget (pair ∷ pairs) found [] Left = ⊥
ReportsNext bounds budget (pair ∷ pairs) found (answer ∷ answers) Left = IsAnswer pair bounds budget answer × (verdicts_in found ≡ answer.verdict ∷ []) × Left answers

-- the row of each pair that is judged has the verdict of that pair's own answer, and no other row has one
abbrev pub ReportOwnAnswers : Bounds → Budget → (targets sources : List Entry) → List Row → List Judged → Type 0
ReportOwnAnswers bounds budget targets sources [] answers = answers ≡ []
ReportOwnAnswers bounds budget targets [] (row ∷ rows) answers = ⊥
ReportOwnAnswers bounds budget targets (source ∷ sources) (row ∷ rows) answers =
    ReportsNext bounds budget (pairs_in source.function (function_named targets source.name)) row.finding answers (λ left. ReportOwnAnswers bounds budget targets sources rows left)
