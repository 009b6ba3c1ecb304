-- Two modules have one list of rows, where a judge may report one verdict of each pair.
use Rattle.std.proofs.Common.{◌≡◌, refl, sym, ap, subst, ◌∙◌, List, [], ◌∷◌, ◌++◌, Option, Some, None, Result, Ok, Err, Bool, true, false, ℕ, cond}
use Rattle.std.specs.List.{list_any}
use Rattle.ir_tree.specs.declared.name.Name.{Name}
use Rattle.ir_tree.specs.declared.tree.Function.{Function}
use Rattle.ir_tree.specs.declared.module.Refused.{Refused}
use Rattle.ir_tree.specs.declared.module.Entry.{Entry}
use Rattle.ir_tree.specs.declared.module.Module.{Module}
use Rattle.points.specs.declared.outcome.Outcome.{Outcome}
use Rattle.points.specs.declared.point.Bounds.{Bounds}
use Rattle.points.specs.declared.point.Point.{Point}
use Rattle.verdicts.specs.declared.verdict.Cause.{Cause}
use Rattle.verdicts.specs.declared.verdict.Shown.{Shown}
use Rattle.verdicts.specs.declared.verdict.Verdict.{Verdict}
use Rattle.verdicts.specs.declared.verdict.Verdict.TheVariants as verdict
use Rattle.verdicts.specs.Pair.{Functions, same_signature}
use Rattle.verdicts.specs.Laws.{VerdictsAreOne}
use Rattle.verdicts.specs.Shown.{IsShown}
use Rattle.verdicts.specs.Trail.{IsVerdict}
use Rattle.report.specs.declared.row.Finding.{Finding}
use Rattle.report.specs.declared.row.Finding.TheVariants as finding
use Rattle.report.specs.declared.row.Row.{Row}
use Rattle.report.specs.Rows.{function_named, IsJudged, IsCompared, IsFinding, IsRow, ends, GoesOn, AreSourceRows, AreRows, extra_rows, RowsAreOne}

-- a judge that may report one verdict of each pair
abbrev pub TellsOne : (Functions → Verdict → Type 0) → Type 0
TellsOne tells = (pair : Functions) (v w : Verdict) → tells pair v → tells pair w → v ≡ w

same_shown : (t t' s s' : Outcome) (r r' : ℕ) → t ≡ t' → s ≡ s' → r ≡ r' → ◌≡◌ {A = Shown} (record { target = t; source = s; read = r }) (record { target = t'; source = s'; read = r' })
same_shown t t' s s' r r' p q e = cc

shown_one : (pair : Functions) (bounds : Bounds) (p : Point) (a b : Shown) → IsShown pair bounds p a → IsShown pair bounds p b → a ≡ b
shown_one pair bounds p a b x y = same_shown a.target b.target a.source b.source a.read b.read (x.target ∙ sym y.target) (x.source ∙ sym y.source) (x.read ∙ sym y.read)

point_of : (p q : Point) → verdict.Incorrect p ≡ verdict.Incorrect q → p ≡ q
point_of p q e = cc e

cause_of : (a b : Cause) → verdict.Unknown a ≡ verdict.Unknown b → a ≡ b
cause_of a b e = cc e

correct-incorrect : (p : Point) → verdict.Correct ≡ verdict.Incorrect p → ⊥
correct-incorrect p e = cc e

correct-unknown : (a : Cause) → verdict.Correct ≡ verdict.Unknown a → ⊥
correct-unknown a e = cc e

incorrect-unknown : (p : Point) (a : Cause) → verdict.Incorrect p ≡ verdict.Unknown a → ⊥
incorrect-unknown p a e = cc e

same_incorrect : (pair : Functions) (bounds : Bounds) (p q : Point) (s t : Shown) → p ≡ q → IsShown pair bounds p s → IsShown pair bounds q t → finding.Incorrect p s ≡ finding.Incorrect q t
same_incorrect pair bounds p q s t e x y =
    let f : IsShown pair bounds q s = subst (λ (o : Point). IsShown pair bounds o s) e x in
    let g : s ≡ t = shown_one pair bounds q s t f y in
    cc (e, g)

judged_one : (tells : Functions → Verdict → Type 0) → TellsOne tells → (bounds : Bounds) → (pair : Functions) (found other : Finding) → IsJudged tells bounds pair found → IsJudged tells bounds pair other → found ≡ other
judged_one tells one bounds pair finding.Correct finding.Correct x y = refl
judged_one tells one bounds pair finding.Correct (finding.Incorrect q t) x y = absurd (correct-incorrect q (one pair _ _ x y.0))
judged_one tells one bounds pair finding.Correct (finding.Unknown b) x y = absurd (correct-unknown b (one pair _ _ x y))
judged_one tells one bounds pair (finding.Incorrect p s) finding.Correct x y = absurd (correct-incorrect p (one pair _ _ y x.0))
judged_one tells one bounds pair (finding.Incorrect p s) (finding.Incorrect q t) x y = same_incorrect pair bounds p q s t (point_of p q (one pair _ _ x.0 y.0)) x.1 y.1
judged_one tells one bounds pair (finding.Incorrect p s) (finding.Unknown b) x y = absurd (incorrect-unknown p b (one pair _ _ x.0 y))
judged_one tells one bounds pair (finding.Unknown a) finding.Correct x y = absurd (correct-unknown a (one pair _ _ y x))
judged_one tells one bounds pair (finding.Unknown a) (finding.Incorrect q t) x y = absurd (incorrect-unknown q a (one pair _ _ y.0 x))
judged_one tells one bounds pair (finding.Unknown a) (finding.Unknown b) x y = ap finding.Unknown (cause_of a b (one pair _ _ x y))
judged_one tells one bounds pair finding.Correct (finding.Refused side refused) x y = absurd y
judged_one tells one bounds pair finding.Correct finding.Signature x y = absurd y
judged_one tells one bounds pair finding.Correct finding.Missing x y = absurd y
judged_one tells one bounds pair finding.Correct finding.Extra x y = absurd y
judged_one tells one bounds pair (finding.Incorrect p s) (finding.Refused side refused) x y = absurd y
judged_one tells one bounds pair (finding.Incorrect p s) finding.Signature x y = absurd y
judged_one tells one bounds pair (finding.Incorrect p s) finding.Missing x y = absurd y
judged_one tells one bounds pair (finding.Incorrect p s) finding.Extra x y = absurd y
judged_one tells one bounds pair (finding.Unknown a) (finding.Refused side refused) x y = absurd y
judged_one tells one bounds pair (finding.Unknown a) finding.Signature x y = absurd y
judged_one tells one bounds pair (finding.Unknown a) finding.Missing x y = absurd y
judged_one tells one bounds pair (finding.Unknown a) finding.Extra x y = absurd y
judged_one tells one bounds pair (finding.Refused side refused) other x y = absurd x
judged_one tells one bounds pair finding.Signature other x y = absurd x
judged_one tells one bounds pair finding.Missing other x y = absurd x
judged_one tells one bounds pair finding.Extra other x y = absurd x

compared_one : (tells : Functions → Verdict → Type 0) → TellsOne tells → (bounds : Bounds) → (pair : Functions) (same : Bool) (found other : Finding) → IsCompared tells bounds pair same found → IsCompared tells bounds pair same other → found ≡ other
compared_one tells one bounds pair true found other x y = judged_one tells one bounds pair found other x y
compared_one tells one bounds pair false found other x y = x ∙ sym y

finding_one : (tells : Functions → Verdict → Type 0) → TellsOne tells → (bounds : Bounds) → (source : Result Function Refused) (target : Option (Result Function Refused)) (found other : Finding) → IsFinding tells bounds source target found → IsFinding tells bounds source target other → found ≡ other
finding_one tells one bounds source None found other x y = x ∙ sym y
finding_one tells one bounds (Err refused) (Some target) found other x y = x ∙ sym y
finding_one tells one bounds (Ok f) (Some (Err refused)) found other x y = x ∙ sym y
finding_one tells one bounds (Ok f) (Some (Ok g)) found other x y = compared_one tells one bounds (record { source = f; target = g }) (same_signature f g) found other x y

same_row : (n n' : Name) (f f' : Finding) → n ≡ n' → f ≡ f' → ◌≡◌ {A = Row} (record { name = n; finding = f }) (record { name = n'; finding = f' })
same_row n n' f f' p q = cc

pub row_one : (tells : Functions → Verdict → Type 0) → TellsOne tells → (bounds : Bounds) → (targets : List Entry) (source : Entry) (row other : Row) → IsRow tells bounds targets source row → IsRow tells bounds targets source other → row ≡ other
row_one tells one bounds targets source row other x y =
    same_row row.name other.name row.finding other.finding (x.name ∙ sym y.name) (finding_one tells one bounds source.function (function_named targets source.name) row.finding other.finding x.found y.found)

after_one : (ended : Bool) (Rest Rest' : Type 0) (rows others : List Row) → (Rest → Rest' → rows ≡ others) → GoesOn ended rows Rest → GoesOn ended others Rest' → rows ≡ others
after_one true Rest Rest' rows others same x y = x ∙ sym y
after_one false Rest Rest' rows others same x y = same x y

source_rows_one : (first : Bool) (tells : Functions → Verdict → Type 0) → TellsOne tells → (bounds : Bounds) → (targets sources : List Entry) (rows others : List Row) → AreSourceRows first tells bounds targets sources rows → AreSourceRows first tells bounds targets sources others → rows ≡ others
source_rows_one first tells one bounds targets [] [] [] x y = refl
source_rows_one first tells one bounds targets [] [] (other ∷ others) x y = absurd y
source_rows_one first tells one bounds targets [] (row ∷ rows) others x y = absurd x
source_rows_one first tells one bounds targets (source ∷ sources) [] others x y = absurd x
source_rows_one first tells one bounds targets (source ∷ sources) (row ∷ rows) [] x y = absurd y
source_rows_one first tells one bounds targets (source ∷ sources) (row ∷ rows) (other ∷ others) x y =
    let e : row ≡ other = row_one tells one bounds targets source row other x.0 y.0 in
    let z = subst (λ (r : Row). GoesOn (ends first r) others (AreSourceRows first tells bounds targets sources others)) (sym e) y.1 in
    let f : rows ≡ others = after_one (ends first row) (AreSourceRows first tells bounds targets sources rows) (AreSourceRows first tells bounds targets sources others) rows others
    (λ u v. source_rows_one first tells one bounds targets sources rows others u v) x.1 z in
    cc (e, f)

pub rows_one : (first : Bool) (tells : Functions → Verdict → Type 0) → TellsOne tells → (bounds : Bounds) (source target : Module) (rows others : List Row) → AreRows first tells bounds source target rows → AreRows first tells bounds source target others → rows ≡ others
rows_one first tells one bounds source target rows others x y =
    let e : x.judged ≡ y.judged = source_rows_one first tells one bounds target.entries source.entries x.judged y.judged x.each y.each in
    x.all ∙ ap (λ (js : List Row). js ++ cond (list_any (ends first) js) [] (extra_rows source.entries target.entries)) e ∙ sym y.all

pub rows_are_one : VerdictsAreOne → RowsAreOne
rows_are_one one first bounds budget source target rows others fits x y =
    rows_one first (λ pair v. IsVerdict pair bounds budget v) (λ pair v w. one pair bounds budget v w fits) bounds source target rows others x y
