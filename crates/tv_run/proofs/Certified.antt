-- The parts of a report's proof file: their names are printed, their logs refute their clauses, and each decided row has one.
use Rattle.tv_run.proofs.Common.{◌≡◌, ℕ, All, List, [], ◌∷◌, ◌++◌, map, Bool, true, false, Option, Some, None, Result, refl, sym, ap, subst, if◌then◌else◌, is_some, cond, list_any, AllByRecursion, cons_option, filter_map, All-append, All-cons, All-nil, Name, Function, Refused, Entry, Module, Bounds, Budget, Verdict, Functions, Judged, Finding, Row, name_text, AreRows, ends, AreSourceRows, after_row, extra_row, extra_rows, function_named, Part, part_of, IsCertified, IsReadName, certified, decided, left_after, parts_of, row_parts, AreAnswers, verdicts_answered, verdicts_in, verdicts_of, entry_names, part_heading, row_heading}
use Rattle.clause_log.specs.declared.step.Cert.{Cert}
use Rattle.verdicts.specs.declared.verdict.Kept.{Kept}
use Rattle.verdicts.specs.declared.verdict.Verdict.TheVariants as verdict
use Rattle.pair_questions.specs.Questions.{IsRefuted}
use Rattle.instantiate.specs.Settling.{IsJudged, Shown}
use Rattle.report.specs.declared.row.Finding.TheVariants as finding

-- ---- names

all_of : {X : Type 0} (P : X → Type 0) (xs : List X) → AllByRecursion P xs → All P xs
all_of P [] all = All-nil P
all_of P (x ∷ xs) all = All-cons P x xs all.0 (all_of P xs all.1)

abbrev Named : Row → Type 0
Named row = IsReadName row.name

source_named : (first : Bool) (may : Functions → Verdict → Type 0) (bounds : Bounds) (targets sources : List Entry) (rows : List Row) → AreSourceRows first may bounds targets sources rows → AllByRecursion IsReadName (entry_names sources) → All Named rows
source_named first may bounds targets [] [] are all = All-nil Named
source_named first may bounds targets [] (r ∷ rs) are all = absurd are
source_named first may bounds targets (s ∷ ss) [] are all = absurd are
source_named first may bounds targets (s ∷ ss) (r ∷ rs) are all =
    All-cons Named r rs (subst IsReadName (sym are.0.name) all.0)
    (after_row (All Named) (ends first r) rs (AreSourceRows first may bounds targets ss rs) (All-nil Named) (λ goes. source_named first may bounds targets ss rs goes all.1) are.1)

extra_named : (sources targets : List Entry) → AllByRecursion IsReadName (entry_names targets) → All Named (extra_rows sources targets)
extra_named sources [] all = All-nil Named
extra_named sources (t ∷ ts) all = go (function_named sources t.name) (extra_named sources ts all.1)
  where
    go : (o : Option (Result Function Refused)) → All Named (extra_rows sources ts) → All Named (if is_some o then extra_rows sources ts else extra_row t ∷ extra_rows sources ts)
    go (Some f) rest = rest
    go None rest = All-cons Named (extra_row t) (extra_rows sources ts) all.0 rest

unless_ended : (ended : Bool) (sources targets : List Entry) → AllByRecursion IsReadName (entry_names targets) → All Named (cond ended [] (extra_rows sources targets))
unless_ended true sources targets all = All-nil Named
unless_ended false sources targets all = extra_named sources targets all

pub rows_named : (first : Bool) (may : Functions → Verdict → Type 0) (bounds : Bounds) (source target : Module) (rows : List Row) → AreRows first may bounds source target rows
    → AllByRecursion IsReadName (entry_names source.entries) → AllByRecursion IsReadName (entry_names target.entries) → All (λ (row : Row). IsReadName row.name) rows
rows_named first may bounds source target rows are s t =
    subst (λ (rs : List Row). All Named rs) (sym are.all)
    (All-append Named are.judged (cond (list_any (ends first) are.judged) [] (extra_rows source.entries target.entries)) (source_named first may bounds target.entries source.entries are.judged are.each s)
    (unless_ended (list_any (ends first) are.judged) source.entries target.entries t))

-- ---- certificates

-- the certificate of a decided verdict refutes its question
abbrev Certifies : Verdict → Option Cert → Type 0
Certifies verdict.Correct cert = Shown cert (λ c. (n : Name) (b : Bool) → IsCertified (part_of (name_text n) b c))
Certifies (verdict.Incorrect p) cert = Shown cert (λ c. (n : Name) (b : Bool) → IsCertified (part_of (name_text n) b c))
Certifies (verdict.Unknown cause) cert = Unit {0}

refuted : (Answer : List ℕ → Type 0) (widths : List ℕ) (c : Cert) → IsRefuted Answer widths c → (n : Name) (b : Bool) → IsCertified (part_of (name_text n) b c)
refuted Answer widths c is n b = record { refutes = is.refutes; variables = is.small.variables; clauses = is.small.clauses }

judged_certifies : (pair : Functions) (bounds : Bounds) (budget : Budget) (kept : Kept) (cert : Option Cert) (v : Verdict) → IsJudged pair bounds budget kept cert v → Certifies v cert
judged_certifies pair bounds budget kept None verdict.Correct is = is.1.1
judged_certifies pair bounds budget kept (Some c) verdict.Correct is = refuted _ _ c is.1.1
judged_certifies pair bounds budget kept None (verdict.Incorrect p) is = is.1.1
judged_certifies pair bounds budget kept (Some c) (verdict.Incorrect p) is = refuted _ _ c is.1.1
judged_certifies pair bounds budget kept cert (verdict.Unknown cause) is = tt

abbrev Certified : Judged → Type 0
Certified answer = Certifies answer.verdict answer.cert

answers_certified : (bounds : Bounds) (budget : Budget) (pairs : List Functions) (answers : List Judged) → AreAnswers bounds budget pairs answers → AllByRecursion Certified answers
answers_certified bounds budget [] [] each = tt
answers_certified bounds budget [] (a ∷ others) each = absurd each
answers_certified bounds budget (p ∷ ps) [] each = absurd each
answers_certified bounds budget (p ∷ ps) (a ∷ others) each = (judged_certifies p bounds budget a.kept a.cert a.verdict each.0, answers_certified bounds budget ps others each.1)

-- ---- parts

first_verdict : (v w : Verdict) (vs ws : List Verdict) → v ∷ vs ≡ w ∷ ws → w ≡ v
first_verdict v w vs ws e = cc e

other_verdicts : (v w : Verdict) (vs ws : List Verdict) → v ∷ vs ≡ w ∷ ws → vs ≡ ws
other_verdicts v w vs ws e = cc e

one_part : (n : Name) (b : Bool) (cert : Option Cert) → Shown cert (λ c. (m : Name) (d : Bool) → IsCertified (part_of (name_text m) d c)) → All IsCertified (certified n (Some b) cert)
one_part n b None shown = absurd shown
one_part n b (Some c) shown = All-cons IsCertified (part_of (name_text n) b c) [] (shown n b) (All-nil IsCertified)

-- what is shown of the rows after
abbrev Goes : List Row → Type 0
Goes rows = (left : List Judged) → AllByRecursion Certified left → verdicts_of rows ≡ verdicts_answered left → All IsCertified (parts_of rows left)

no_part : (n : Name) (found : Finding) (answers : List Judged) → decided found ≡ None → All IsCertified (row_parts (record { name = n; finding = found }) answers)
no_part n found [] none = All-nil IsCertified
no_part n found (a ∷ others) none = rw none (All-nil IsCertified)

decided_next : (n : Name) (found : Finding) (v : Verdict) (b : Bool) (rows : List Row) (answers : List Judged) → decided found ≡ Some b → left_after found answers ≡ Rattle.std.proofs.Common.drop 1 answers
    → ((cert : Option Cert) → Certifies v cert → Shown cert (λ c. (m : Name) (d : Bool) → IsCertified (part_of (name_text m) d c)))
    → AllByRecursion Certified answers → v ∷ verdicts_of rows ≡ verdicts_answered answers → Goes rows → All IsCertified (row_parts (record { name = n; finding = found }) answers ++ parts_of rows (left_after found answers))
decided_next n found v b rows [] is left shown all reported goes = absurd (cc reported)
decided_next n found v b rows (a ∷ others) is left shown all reported goes =
    let told : a.verdict ≡ v = first_verdict v a.verdict (verdicts_of rows) (verdicts_answered others) reported in
    rw (is, left)
    (All-append IsCertified (certified n (Some b) a.cert) (parts_of rows others)
    (one_part n b a.cert (shown a.cert (subst (λ (w : Verdict). Certifies w a.cert) told all.0)))
    (goes others all.1 (other_verdicts v a.verdict (verdicts_of rows) (verdicts_answered others) reported)))

-- a row without a verdict
undecided_next : (n : Name) (found : Finding) (rows : List Row) (answers : List Judged) → decided found ≡ None → left_after found answers ≡ answers → verdicts_in found ≡ []
    → AllByRecursion Certified answers → verdicts_in found ++ verdicts_of rows ≡ verdicts_answered answers → Goes rows → All IsCertified (row_parts (record { name = n; finding = found }) answers ++ parts_of rows (left_after found answers))
undecided_next n found rows answers is left none all reported goes =
    All-append IsCertified (row_parts (record { name = n; finding = found }) answers) (parts_of rows (left_after found answers)) (no_part n found answers is)
    (rw left (goes answers all (let e : [] ++ verdicts_of rows ≡ verdicts_answered answers = subst (λ (vs : List Verdict). vs ++ verdicts_of rows ≡ verdicts_answered answers) none reported in e)))

unknown_next : (n : Name) (cause : Rattle.verdicts.specs.declared.verdict.Cause.Cause) (rows : List Row) (answers : List Judged)
    → AllByRecursion Certified answers → verdict.Unknown cause ∷ verdicts_of rows ≡ verdicts_answered answers → Goes rows
    → All IsCertified (row_parts (record { name = n; finding = finding.Unknown cause }) answers ++ parts_of rows (left_after (finding.Unknown cause) answers))
unknown_next n cause rows [] all reported goes = absurd (cc reported)
unknown_next n cause rows (a ∷ others) all reported goes =
    All-append IsCertified (row_parts (record { name = n; finding = finding.Unknown cause }) (a ∷ others)) (parts_of rows others) (no_part n (finding.Unknown cause) (a ∷ others) refl)
    (goes others all.1 (other_verdicts (verdict.Unknown cause) a.verdict (verdicts_of rows) (verdicts_answered others) reported))

row_next : (n : Name) (found : Finding) (rows : List Row) (answers : List Judged) → AllByRecursion Certified answers → verdicts_in found ++ verdicts_of rows ≡ verdicts_answered answers → Goes rows
    → All IsCertified (row_parts (record { name = n; finding = found }) answers ++ parts_of rows (left_after found answers))
row_next n finding.Correct rows answers all reported goes = decided_next n finding.Correct verdict.Correct true rows answers refl refl (λ cert c. c) all reported goes
row_next n (finding.Incorrect p shown) rows answers all reported goes = decided_next n (finding.Incorrect p shown) (verdict.Incorrect p) false rows answers refl refl (λ cert c. c) all reported goes
row_next n (finding.Unknown cause) rows answers all reported goes = unknown_next n cause rows answers all reported goes
row_next n (finding.Refused side refused) rows answers all reported goes = undecided_next n (finding.Refused side refused) rows answers refl refl refl all reported goes
row_next n finding.Signature rows answers all reported goes = undecided_next n finding.Signature rows answers refl refl refl all reported goes
row_next n finding.Missing rows answers all reported goes = undecided_next n finding.Missing rows answers refl refl refl all reported goes
row_next n finding.Extra rows answers all reported goes = undecided_next n finding.Extra rows answers refl refl refl all reported goes

parts_certified : (rows : List Row) (answers : List Judged) → AllByRecursion Certified answers → verdicts_of rows ≡ verdicts_answered answers → All IsCertified (parts_of rows answers)
parts_certified [] answers all reported = All-nil IsCertified
parts_certified (row ∷ rows) answers all reported = row_next row.name row.finding rows answers all reported (λ left each told. parts_certified rows left each told)

pub rows_certified : (bounds : Bounds) (budget : Budget) (pairs : List Functions) (rows : List Row) (answers : List Judged) → AreAnswers bounds budget pairs answers → verdicts_of rows ≡ verdicts_answered answers → All IsCertified (parts_of rows answers)
rows_certified bounds budget pairs rows answers each reported = parts_certified rows answers (answers_certified bounds budget pairs answers each) reported

-- ---- one part for each decided row

decided_heading : (n : Name) (b : Bool) (cert : Option Cert) → Shown cert (λ c. (m : Name) (d : Bool) → IsCertified (part_of (name_text m) d c)) → (parts : List Part) (rest : List (List ℕ × Bool)) → map part_heading parts ≡ rest
    → map part_heading (certified n (Some b) cert ++ parts) ≡ (name_text n, b) ∷ rest
decided_heading n b None shown parts rest e = absurd shown
decided_heading n b (Some c) shown parts rest e = ap (λ (headings : List (List ℕ × Bool)). (name_text n, b) ∷ headings) e

-- what is shown of the rows after
abbrev HeadsOn : List Row → Type 0
HeadsOn rows = (left : List Judged) → AllByRecursion Certified left → verdicts_of rows ≡ verdicts_answered left → map part_heading (parts_of rows left) ≡ filter_map row_heading rows

abbrev Heads : Name → Finding → List Row → List Judged → Type 0
Heads n found rows answers =
    map part_heading (row_parts (record { name = n; finding = found }) answers ++ parts_of rows (left_after found answers))
    ≡ cons_option (row_heading (record { name = n; finding = found })) (filter_map row_heading rows)

heads : (n : Name) (found : Finding) (rows : List Row) (answers : List Judged) → AllByRecursion Certified answers → verdicts_in found ++ verdicts_of rows ≡ verdicts_answered answers → HeadsOn rows → Heads n found rows answers
heads n finding.Correct rows [] all reported on = absurd (cc reported)
heads n finding.Correct rows (a ∷ others) all reported on =
    let told : a.verdict ≡ verdict.Correct = first_verdict verdict.Correct a.verdict (verdicts_of rows) (verdicts_answered others) reported in
    decided_heading n true a.cert (subst (λ (w : Verdict). Certifies w a.cert) told all.0) (parts_of rows others) (filter_map row_heading rows)
    (on others all.1 (other_verdicts verdict.Correct a.verdict (verdicts_of rows) (verdicts_answered others) reported))
heads n (finding.Incorrect p shown) rows [] all reported on = absurd (cc reported)
heads n (finding.Incorrect p shown) rows (a ∷ others) all reported on =
    let told : a.verdict ≡ verdict.Incorrect p = first_verdict (verdict.Incorrect p) a.verdict (verdicts_of rows) (verdicts_answered others) reported in
    decided_heading n false a.cert (subst (λ (w : Verdict). Certifies w a.cert) told all.0) (parts_of rows others) (filter_map row_heading rows)
    (on others all.1 (other_verdicts (verdict.Incorrect p) a.verdict (verdicts_of rows) (verdicts_answered others) reported))
heads n (finding.Unknown cause) rows [] all reported on = absurd (cc reported)
heads n (finding.Unknown cause) rows (a ∷ others) all reported on = on others all.1 (other_verdicts (verdict.Unknown cause) a.verdict (verdicts_of rows) (verdicts_answered others) reported)
heads n (finding.Refused side refused) rows [] all reported on = on [] all reported
heads n (finding.Refused side refused) rows (a ∷ others) all reported on = on (a ∷ others) all reported
heads n finding.Signature rows [] all reported on = on [] all reported
heads n finding.Signature rows (a ∷ others) all reported on = on (a ∷ others) all reported
heads n finding.Missing rows [] all reported on = on [] all reported
heads n finding.Missing rows (a ∷ others) all reported on = on (a ∷ others) all reported
heads n finding.Extra rows [] all reported on = on [] all reported
heads n finding.Extra rows (a ∷ others) all reported on = on (a ∷ others) all reported

all_headed : (rows : List Row) → HeadsOn rows
all_headed [] answers all reported = refl
all_headed (row ∷ rows) answers all reported = heads row.name row.finding rows answers all reported (all_headed rows)

pub rows_headed : (bounds : Bounds) (budget : Budget) (pairs : List Functions) (rows : List Row) (answers : List Judged) → AreAnswers bounds budget pairs answers → verdicts_of rows ≡ verdicts_answered answers
    → map part_heading (parts_of rows answers) ≡ filter_map row_heading rows
rows_headed bounds budget pairs rows answers each reported = all_headed rows answers (answers_certified bounds budget pairs answers each) reported
