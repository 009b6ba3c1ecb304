-- Rows of pairs that are judged, and their own answers.
use Rattle.module_rows.proofs.Common.{◌≡◌, List, [], ◌∷◌, ◌++◌, length, take, refl, sym, ap, ◌∙◌, Option, Some, None, Result, Ok, Err, Bool, true, false, if◌then◌else◌, Function, Refused, Entry, Bounds, Budget, Verdict, Functions, same_signature, Judged, Finding, Row, function_named, IsJudged, IsCompared, IsFinding, ends, AreSourceRows, after_row, pairs_in, judged_pairs, AreAnswers, verdicts_in, verdicts_of, verdicts_answered, ReportsNext, ReportOwnAnswers}
use Rattle.verdicts.specs.declared.verdict.Verdict.TheVariants as verdict
use Rattle.report.specs.declared.row.Finding.TheVariants as finding

abbrev first_or : Verdict → List Verdict → Verdict
first_or v [] = v
first_or v (x ∷ xs) = x

abbrev after_first : List Verdict → List Verdict
after_first [] = []
after_first (x ∷ xs) = xs

-- what is left to be shown of the rows after
abbrev Goes : (bounds : Bounds) (budget : Budget) (rest : List Functions) (vs : List Verdict) → (List Judged → Type 0) → Type 0
Goes bounds budget rest vs Left = (answers : List Judged) → AreAnswers bounds budget (take (length answers) rest) answers → vs ≡ verdicts_answered answers → Left answers

-- the row of a pair that is judged
next_of_pair : (bounds : Bounds) (budget : Budget) (pair : Functions) (rest : List Functions) (found : Finding) (v : Verdict) (vs : List Verdict) (answers : List Judged) (Left : List Judged → Type 0)
    → verdicts_in found ≡ v ∷ [] → AreAnswers bounds budget (take (length answers) (pair ∷ rest)) answers → v ∷ vs ≡ verdicts_answered answers → Goes bounds budget rest vs Left → ReportsNext bounds budget (pair ∷ []) found answers Left
next_of_pair bounds budget pair rest found v vs [] Left is each reported goes = absurd (cc reported)
next_of_pair bounds budget pair rest found v vs (a ∷ others) Left is each reported goes =
    (each.0, is ∙ ap (λ (x : Verdict). x ∷ []) (ap (first_or v) reported), goes others each.1 (ap after_first reported))

judged_next : (may : Functions → Verdict → Type 0) (bounds : Bounds) (budget : Budget) (pair : Functions) (rest : List Functions) (found : Finding) (vs : List Verdict) (answers : List Judged) (Left : List Judged → Type 0)
    → IsJudged may bounds pair found → AreAnswers bounds budget (take (length answers) (pair ∷ rest)) answers → verdicts_in found ++ vs ≡ verdicts_answered answers → Goes bounds budget rest vs Left → ReportsNext bounds budget (pair ∷ []) found answers Left
judged_next may bounds budget pair rest finding.Correct vs answers Left is each reported goes = next_of_pair bounds budget pair rest finding.Correct verdict.Correct vs answers Left refl each reported goes
judged_next may bounds budget pair rest (finding.Incorrect p s) vs answers Left is each reported goes = next_of_pair bounds budget pair rest (finding.Incorrect p s) (verdict.Incorrect p) vs answers Left refl each reported goes
judged_next may bounds budget pair rest (finding.Unknown c) vs answers Left is each reported goes = next_of_pair bounds budget pair rest (finding.Unknown c) (verdict.Unknown c) vs answers Left refl each reported goes
judged_next may bounds budget pair rest (finding.Refused s r) vs answers Left is each reported goes = absurd is
judged_next may bounds budget pair rest finding.Signature vs answers Left is each reported goes = absurd is
judged_next may bounds budget pair rest finding.Missing vs answers Left is each reported goes = absurd is
judged_next may bounds budget pair rest finding.Extra vs answers Left is each reported goes = absurd is

-- the row of another function has no verdict
next_without : (bounds : Bounds) (budget : Budget) (rest : List Functions) (found : Finding) (vs : List Verdict) (answers : List Judged) (Left : List Judged → Type 0)
    → verdicts_in found ≡ [] → AreAnswers bounds budget (take (length answers) rest) answers → verdicts_in found ++ vs ≡ verdicts_answered answers → Goes bounds budget rest vs Left → ReportsNext bounds budget [] found answers Left
next_without bounds budget rest found vs answers Left none each reported goes = (none, goes answers each (sym (ap (λ (ws : List Verdict). ws ++ vs) none) ∙ reported))

compared_next : (may : Functions → Verdict → Type 0) (bounds : Bounds) (budget : Budget) (pair : Functions) (same : Bool) (rest : List Functions) (found : Finding) (vs : List Verdict) (answers : List Judged) (Left : List Judged → Type 0)
    → IsCompared may bounds pair same found → AreAnswers bounds budget (take (length answers) ((if same then pair ∷ [] else []) ++ rest)) answers → verdicts_in found ++ vs ≡ verdicts_answered answers → Goes bounds budget rest vs Left → ReportsNext bounds budget (if same then pair ∷ [] else []) found answers Left
compared_next may bounds budget pair true rest found vs answers Left is each reported goes = judged_next may bounds budget pair rest found vs answers Left is each reported goes
compared_next may bounds budget pair false rest found vs answers Left is each reported goes = next_without bounds budget rest found vs answers Left (ap verdicts_in is) each reported goes

row_next : (may : Functions → Verdict → Type 0) (bounds : Bounds) (budget : Budget) (source : Result Function Refused) (target : Option (Result Function Refused)) (rest : List Functions) (found : Finding) (vs : List Verdict) (answers : List Judged) (Left : List Judged → Type 0)
    → IsFinding may bounds source target found → AreAnswers bounds budget (take (length answers) (pairs_in source target ++ rest)) answers → verdicts_in found ++ vs ≡ verdicts_answered answers → Goes bounds budget rest vs Left → ReportsNext bounds budget (pairs_in source target) found answers Left
row_next may bounds budget (Ok f) None rest found vs answers Left is each reported goes = next_without bounds budget rest found vs answers Left (ap verdicts_in is) each reported goes
row_next may bounds budget (Err r) None rest found vs answers Left is each reported goes = next_without bounds budget rest found vs answers Left (ap verdicts_in is) each reported goes
row_next may bounds budget (Err r) (Some t) rest found vs answers Left is each reported goes = next_without bounds budget rest found vs answers Left (ap verdicts_in is) each reported goes
row_next may bounds budget (Ok f) (Some (Err r)) rest found vs answers Left is each reported goes = next_without bounds budget rest found vs answers Left (ap verdicts_in is) each reported goes
row_next may bounds budget (Ok f) (Some (Ok g)) rest found vs answers Left is each reported goes =
    compared_next may bounds budget (record { source = f; target = g }) (same_signature f g) rest found vs answers Left is each reported goes

no_answers : (answers : List Judged) → [] ≡ verdicts_answered answers → answers ≡ []
no_answers [] reported = refl
no_answers (a ∷ others) reported = absurd (cc reported)

-- a row for each of the first answers, whether or not the rows end at one
pub rows_have_answers : (first : Bool) (may : Functions → Verdict → Type 0) (bounds : Bounds) (budget : Budget) (targets sources : List Entry) (rows : List Row) (answers : List Judged)
    → AreSourceRows first may bounds targets sources rows → AreAnswers bounds budget (take (length answers) (judged_pairs targets sources)) answers → verdicts_of rows ≡ verdicts_answered answers → ReportOwnAnswers bounds budget targets sources rows answers
rows_have_answers first may bounds budget targets sources [] answers are each reported = no_answers answers reported
rows_have_answers first may bounds budget targets [] (r ∷ rs) answers are each reported = absurd are
rows_have_answers first may bounds budget targets (s ∷ ss) (r ∷ rs) answers are each reported =
    row_next may bounds budget s.function (function_named targets s.name) (judged_pairs targets ss) r.finding (verdicts_of rs) answers (λ (left : List Judged). ReportOwnAnswers bounds budget targets ss rs left) are.0.found each reported
    (λ left each_left reported_left.
    after_row (λ (more : List Row). verdicts_of more ≡ verdicts_answered left → ReportOwnAnswers bounds budget targets ss more left) (ends first r) rs (AreSourceRows first may bounds targets ss rs)
    (no_answers left) (λ goes. rows_have_answers first may bounds budget targets ss rs left goes each_left) are.1 reported_left)
