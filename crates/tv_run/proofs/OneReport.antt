-- Without a limit on conflicts two files have one report, the defined one.
use Rattle.tv_run.proofs.Common.{◌≡◌, ℕ, arith, List, [], ◌∷◌, Option, Some, None, Result, Ok, Err, Bool, true, false, sym, ap, subst, ◌∙◌, inl, inr, Function, Refused, Entry, Module, OneModule, Bounds, Budget, Verdict, Functions, same_signature, AreInRange, Finding, Row, function_named, IsJudged, IsCompared, IsFinding, ends, AreSourceRows, AreRows, goes_weaker, RowsAreOne, FirstRowsAreTheFirst, report_text, status_of, HasModule, FileReportsAreDefined, FirstReportsHaveTheFirstRows, ReportsAreDefined, ReportsAreOne, IsDefinedReport, may_answer}
use Rattle.verdicts.specs.Trail.{IsVerdict}
use Rattle.report.specs.declared.row.Finding.TheVariants as finding
use Rattle.tv_run.proofs.Files.{module_one}

-- ---- a judge that answers only what another may answer

abbrev Implies : (Functions → Verdict → Type 0) → (Functions → Verdict → Type 0) → Type 0
Implies tells may = (pair : Functions) (v : Verdict) → tells pair v → may pair v

judged_by : (tells may : Functions → Verdict → Type 0) → Implies tells may → (bounds : Bounds) (pair : Functions) (found : Finding) → IsJudged tells bounds pair found → IsJudged may bounds pair found
judged_by tells may implies bounds pair finding.Correct h = implies pair _ h
judged_by tells may implies bounds pair (finding.Incorrect p shown) h = (implies pair _ h.0, h.1)
judged_by tells may implies bounds pair (finding.Unknown cause) h = implies pair _ h
judged_by tells may implies bounds pair (finding.Refused side refused) h = absurd h
judged_by tells may implies bounds pair finding.Signature h = absurd h
judged_by tells may implies bounds pair finding.Missing h = absurd h
judged_by tells may implies bounds pair finding.Extra h = absurd h

compared_by : (tells may : Functions → Verdict → Type 0) → Implies tells may → (bounds : Bounds) (pair : Functions) (same : Bool) (found : Finding) → IsCompared tells bounds pair same found → IsCompared may bounds pair same found
compared_by tells may implies bounds pair true found h = judged_by tells may implies bounds pair found h
compared_by tells may implies bounds pair false found h = h

finding_by : (tells may : Functions → Verdict → Type 0) → Implies tells may → (bounds : Bounds) (source : Result Function Refused) (target : Option (Result Function Refused)) (found : Finding) → IsFinding tells bounds source target found → IsFinding may bounds source target found
finding_by tells may implies bounds source None found h = h
finding_by tells may implies bounds (Err refused) (Some target) found h = h
finding_by tells may implies bounds (Ok f) (Some (Err refused)) found h = h
finding_by tells may implies bounds (Ok f) (Some (Ok g)) found h = compared_by tells may implies bounds (record { source = f; target = g }) (same_signature f g) found h

source_rows_by : (first : Bool) (tells may : Functions → Verdict → Type 0) → Implies tells may → (bounds : Bounds) (targets sources : List Entry) (rows : List Row) → AreSourceRows first tells bounds targets sources rows → AreSourceRows first may bounds targets sources rows
source_rows_by first tells may implies bounds targets [] [] h = tt
source_rows_by first tells may implies bounds targets [] (row ∷ rows) h = absurd h
source_rows_by first tells may implies bounds targets (source ∷ sources) [] h = absurd h
source_rows_by first tells may implies bounds targets (source ∷ sources) (row ∷ rows) h = (
  record { name = h.0.name; found = finding_by tells may implies bounds source.function (function_named targets source.name) row.finding h.0.found },
  goes_weaker (ends first row) rows (AreSourceRows first tells bounds targets sources rows) (AreSourceRows first may bounds targets sources rows) (source_rows_by first tells may implies bounds targets sources rows) h.1,
)

rows_by : (first : Bool) (tells may : Functions → Verdict → Type 0) → Implies tells may → (bounds : Bounds) (source target : Module) (rows : List Row) → AreRows first tells bounds source target rows → AreRows first may bounds source target rows
rows_by first tells may implies bounds source target rows h = record { judged = h.judged; each = source_rows_by first tells may implies bounds target.entries source.entries h.judged h.each; all = h.all }

-- ---- without a limit

unlimited : (bounds : Bounds) (budget : Budget) → budget.conflicts ≡ 0 → Implies (may_answer bounds budget) (λ pair v. IsVerdict pair bounds budget v)
unlimited bounds budget none pair v (inl is) = is
unlimited bounds budget none pair v (inr spent) = absurd (let limited = spent.limited in omega (arith, limited, none))

pub reports_are_defined : ReportsAreDefined
reports_are_defined first bounds budget source target answers text status none report = record {
  rows = report.rows;
  are_rows = rows_by first (may_answer bounds budget) (λ pair v. IsVerdict pair bounds budget v) (unlimited bounds budget none) bounds source target report.rows report.are_rows;
  text_is = report.text_is;
  status_is = report.status_is;
}

-- ---- one report

module _ (rows : RowsAreOne) (first : Bool) (bounds : Bounds) (budget : Budget) (source target : Module) (text other : List ℕ) (status other_status : ℕ) where
  defined_one : AreInRange bounds budget → IsDefinedReport first bounds budget source target text status → IsDefinedReport first bounds budget source target other other_status → (text ≡ other) × (status ≡ other_status)
  defined_one ranges a b =
      let e : a.rows ≡ b.rows = rows first bounds budget source target a.rows b.rows ranges a.are_rows b.are_rows in
      (a.text_is ∙ ap (report_text bounds budget first) e ∙ sym b.text_is, a.status_is ∙ ap status_of e ∙ sym b.status_is)

pub file_reports_are_defined : OneModule → RowsAreOne → FileReportsAreDefined
file_reports_are_defined one rows files c answers text status ranges none report =
    let is = reports_are_defined c.first c.bounds c.budget report.source report.target answers text status none report.report in
    record {
      defined = record { source = report.source; target = report.target; source_is = report.source_is; target_is = report.target_is; is = is };
      only = λ other other_status has.
          let s : has.source ≡ report.source = module_one one (files c.source) has.source report.source has.source_is report.source_is in
          let t : has.target ≡ report.target = module_one one (files c.target) has.target report.target has.target_is report.target_is in
          defined_one rows c.first c.bounds c.budget report.source report.target other text other_status status ranges
          (subst (λ (m : Module). IsDefinedReport c.first c.bounds c.budget m report.target other other_status) s
          (subst (λ (n : Module). IsDefinedReport c.first c.bounds c.budget has.source n other other_status) t has.is))
          is;
    }

pub reports_are_one : OneModule → RowsAreOne → ReportsAreOne
reports_are_one one rows files others a b answers other_answers text other status other_status ranges none same x y =
    let s : y.source ≡ x.source = module_one one (files a.source) y.source x.source (subst (λ (file : Option (List ℕ)). HasModule file y.source) (sym same.source) y.source_is) x.source_is in
    let t : y.target ≡ x.target = module_one one (files a.target) y.target x.target (subst (λ (file : Option (List ℕ)). HasModule file y.target) (sym same.target) y.target_is) x.target_is in
    let there = reports_are_defined b.first b.bounds b.budget y.source y.target other_answers other other_status (subst (λ (k : Budget). k.conflicts ≡ 0) same.budget none) y.report in
    defined_one rows a.first a.bounds a.budget x.source x.target text other status other_status ranges
    (reports_are_defined a.first a.bounds a.budget x.source x.target answers text status none x.report)
    (subst (λ (m : Module). IsDefinedReport a.first a.bounds a.budget m x.target other other_status) s
    (subst (λ (n : Module). IsDefinedReport a.first a.bounds a.budget y.source n other other_status) t
    (subst (λ (g : Bounds). IsDefinedReport a.first g a.budget y.source y.target other other_status) (sym same.bounds)
    (subst (λ (k : Budget). IsDefinedReport a.first b.bounds k y.source y.target other other_status) (sym same.budget)
    (subst (λ (e : Bool). IsDefinedReport e b.bounds b.budget y.source y.target other other_status) (sym same.first) there)))))

-- ---- the report that ends at its first incorrect row

pub first_reports_have_the_first_rows : FirstRowsAreTheFirst → FirstReportsHaveTheFirstRows
first_reports_have_the_first_rows law bounds budget source target text whole_text status whole_status ranges report whole =
    law bounds budget source target report.rows whole.rows ranges report.are_rows whole.are_rows
