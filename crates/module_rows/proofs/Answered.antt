-- Answers of the judge, and rows of the source, one at a time.
use Rattle.module_rows.proofs.Common.{◌≡◌, ℕ, zero, suc, ◌+◌, ◌<◌, ◌≤◌, arith, Bool, true, false, cond, ◌&&◌, List, [], ◌∷◌, ◌++◌, length, drop, take, get_or, refl, sym, ap, subst, ◌∙◌, true≢false, Option, Some, None, Result, is_some, if◌then◌else◌, append-nil, append_assoc, drop_all, drop_more, Function, Refused, Entry, Bounds, Budget, Verdict, Functions, Judged, IsAnswer, StopsAtFirst, is_incorrect, refutes, AllZip, list_any, Finding, Row, is_of_class, function_named, IsRow, ends, GoesOn, AreSourceRows, extra_row, extra_rows, pairs_in, judged_pairs, AreAnswers, AreAnswersUpTo, verdicts_in, verdicts_of, verdicts_answered, HasNext, IsTaken, may_answer}
use Rattle.std.proofs.lemmas.Grind.{flat_map-append}
use Rattle.std.specs.Prelude.{Any}
use Rattle.verdicts.specs.declared.verdict.Verdict.TheVariants as verdict
use Rattle.report.specs.declared.row.Finding.TheVariants as finding
use Rattle.report.specs.declared.status.Class.TheVariants as class
use Rattle.module_rows.proofs.Pairs.{one_pair}

-- ---- answers

-- the pairs of one function are at most one
answers_first : (first : Bool) (bounds : Bounds) (budget : Budget) (pairs more : List Functions) (answers : List Judged) → length pairs ≤ 1 → AreAnswersUpTo first bounds budget (pairs ++ more) answers → HasNext bounds budget pairs answers
answers_first first bounds budget [] more answers few each = tt
answers_first first bounds budget (p ∷ []) more [] few each = absurd each
answers_first first bounds budget (p ∷ []) more (x ∷ xs) few each = (each.0, tt)
answers_first first bounds budget (p ∷ q ∷ ps) more answers few each = absurd (omega (arith, few))

verdicts_cut : (n : ℕ) (answers : List Judged) → verdicts_answered answers ≡ verdicts_answered (take n answers) ++ verdicts_answered (drop n answers)
verdicts_cut zero answers = refl
verdicts_cut (suc n) [] = refl
verdicts_cut (suc n) (x ∷ xs) = ap (λ (vs : List Verdict). x.verdict ∷ vs) (verdicts_cut n xs)

none_left : (first : Bool) (bounds : Bounds) (budget : Budget) (answers : List Judged) → AreAnswersUpTo first bounds budget [] answers → answers ≡ []
none_left first bounds budget [] each = refl
none_left first bounds budget (a ∷ others) each = absurd each

-- all answers are the first ones
pub all_are_first : (bounds : Bounds) (budget : Budget) (pairs : List Functions) (answers : List Judged) → AreAnswers bounds budget pairs answers → AreAnswers bounds budget (take (length answers) pairs) answers
all_are_first bounds budget [] [] each = tt
all_are_first bounds budget [] (a ∷ others) each = absurd each
all_are_first bounds budget (p ∷ ps) [] each = absurd each
all_are_first bounds budget (p ∷ ps) (a ∷ others) each = (each.0, all_are_first bounds budget ps others each.1)

-- the answers of the driver, index by index
pub zipped_answers : (bounds : Bounds) (budget : Budget) (pairs : List Functions) (answers : List Judged) → AllZip (λ pair answer. IsAnswer pair bounds budget answer) pairs answers → AreAnswers bounds budget pairs answers
zipped_answers bounds budget [] [] each = tt
zipped_answers bounds budget [] (x ∷ xs) each = absurd each
zipped_answers bounds budget (p ∷ ps) [] each = absurd each
zipped_answers bounds budget (p ∷ ps) (x ∷ xs) each = (each.0, zipped_answers bounds budget ps xs each.1)

pub all_up_to : (bounds : Bounds) (budget : Budget) (pairs : List Functions) (answers : List Judged) → AreAnswers bounds budget pairs answers → AreAnswersUpTo false bounds budget pairs answers
all_up_to bounds budget [] [] each = tt
all_up_to bounds budget [] (x ∷ xs) each = absurd each
all_up_to bounds budget (p ∷ ps) [] each = absurd each
all_up_to bounds budget (p ∷ ps) (x ∷ xs) each = (each.0, all_up_to bounds budget ps xs each.1)

-- ---- the answers up to the first incorrect one

no_more : (n : ℕ) (x : Judged) (xs : List Judged) → StopsAtFirst is_incorrect n (x ∷ xs) → is_incorrect x ≡ true → xs ≡ []
no_more n x [] stops is = refl
no_more n x (y ∷ ys) stops is = absurd (true≢false (sym is ∙ stops.before 0 x (omega arith)))

stops_later : (n : ℕ) (x : Judged) (xs : List Judged) → StopsAtFirst is_incorrect (suc n) (x ∷ xs) → is_incorrect x ≡ false → StopsAtFirst is_incorrect n xs
stops_later n x xs stops is = record {
  few = let few = stops.few in omega (arith, few);
  before = λ i d less. stops.before (suc i) d (omega (arith, less));
  last = λ less. go (stops.last (omega (arith, less)));
}
  where
    go : Any (λ a. is_incorrect a ≡ true) (x ∷ xs) → Any (λ a. is_incorrect a ≡ true) xs
    go (zero, y, inside, e, ends_here) = absurd (true≢false (sym ends_here ∙ ap is_incorrect (sym e) ∙ is))
    go (suc k, y, inside, e, ends_later) = (k, y, omega (arith, inside), e, ends_later)

pub zipped_first : (bounds : Bounds) (budget : Budget) (pairs : List Functions) (answers : List Judged) → AllZip (λ pair answer. IsAnswer pair bounds budget answer) (take (length answers) pairs) answers → StopsAtFirst is_incorrect (length pairs) answers → AreAnswersUpTo true bounds budget pairs answers
zipped_first bounds budget [] [] each stops = tt
zipped_first bounds budget [] (x ∷ xs) each stops = absurd (let few = stops.few in omega (arith, few))
zipped_first bounds budget (p ∷ ps) [] each stops = absurd (let some = stops.last (omega arith) in let inside = some.2 in omega (arith, inside))
zipped_first bounds budget (p ∷ ps) (x ∷ xs) each stops = (each.0, go (is_incorrect x) refl (zipped_first bounds budget ps xs each.1))
  where
    go : (ended : Bool) → is_incorrect x ≡ ended → (StopsAtFirst is_incorrect (length ps) xs → AreAnswersUpTo true bounds budget ps xs) → GoesOn ended xs (AreAnswersUpTo true bounds budget ps xs)
    go true is rest = no_more (length (p ∷ ps)) x xs stops is
    go false is rest = rest (stops_later (length ps) x xs stops is)

-- ---- a row ends the report where its answer ends the answers

first_verdict : (v w : Verdict) → v ∷ [] ≡ w ∷ [] → v ≡ w
first_verdict v w e = cc e

found_incorrect : (found : Finding) (v : Verdict) → verdicts_in found ≡ v ∷ [] → is_of_class class.Incorrect found ≡ refutes v
found_incorrect finding.Correct v e = ap refutes (first_verdict verdict.Correct v e)
found_incorrect (finding.Incorrect point shown) v e = ap refutes (first_verdict (verdict.Incorrect point) v e)
found_incorrect (finding.Unknown cause) v e = ap refutes (first_verdict (verdict.Unknown cause) v e)
found_incorrect (finding.Refused side refused) v e = absurd (cc e)
found_incorrect finding.Signature v e = absurd (cc e)
found_incorrect finding.Missing v e = absurd (cc e)
found_incorrect finding.Extra v e = absurd (cc e)

found_without : (found : Finding) → verdicts_in found ≡ [] → is_of_class class.Incorrect found ≡ false
found_without finding.Correct e = absurd (cc e)
found_without (finding.Incorrect point shown) e = absurd (cc e)
found_without (finding.Unknown cause) e = absurd (cc e)
found_without (finding.Refused side refused) e = refl
found_without finding.Signature e = refl
found_without finding.Missing e = refl
found_without finding.Extra e = refl

and_false : (b : Bool) → (b && false) ≡ false
and_false true = refl
and_false false = refl

-- what is left after a row's own answer goes on where the rows do
taken_goes : (first : Bool) (bounds : Bounds) (budget : Budget) (pairs more : List Functions) (row : Row) (left left' : List Judged) → length pairs ≤ 1 → AreAnswersUpTo first bounds budget (pairs ++ more) left → IsTaken pairs (verdicts_in row.finding) left left' → GoesOn (ends first row) left' (AreAnswersUpTo first bounds budget more left')
taken_goes first bounds budget [] more row left left' few each taken =
    let on : ends first row ≡ false = ap (λ b. first && b) (found_without row.finding taken.reported) ∙ and_false first in
    subst (λ b. GoesOn b left' (AreAnswersUpTo first bounds budget more left')) (sym on) (subst (AreAnswersUpTo first bounds budget more) (sym taken.left) each)
taken_goes first bounds budget (p ∷ []) more row [] left' few each taken = absurd each
taken_goes first bounds budget (p ∷ []) more row (x ∷ xs) left' few each taken =
    let same : ends first row ≡ (first && is_incorrect x) = ap (λ b. first && b) (found_incorrect row.finding x.verdict taken.reported) in
    subst (λ b. GoesOn b left' (AreAnswersUpTo first bounds budget more left')) (sym same)
    (subst (λ (ys : List Judged). GoesOn (first && is_incorrect x) ys (AreAnswersUpTo first bounds budget more ys)) (sym taken.left) each.1)
taken_goes first bounds budget (p ∷ q ∷ ps) more row left left' few each taken = absurd (omega (arith, few))

-- ---- the rows of the first functions of the source

pub record IsSoFar (first : Bool) (bounds : Bounds) (budget : Budget) (targets sources : List Entry) (i : ℕ) (rows : List Row) (left answers : List Judged) : Type 0 where
  pub rows_so_far : (more : List Row) → AreSourceRows first (may_answer bounds budget) bounds targets (drop i sources) more → AreSourceRows first (may_answer bounds budget) bounds targets sources (rows ++ more)
  pub answered : AreAnswersUpTo first bounds budget (judged_pairs targets (drop i sources)) left
  pub reported : verdicts_of rows ++ verdicts_answered left ≡ verdicts_answered answers

pub no_rows : (first : Bool) (bounds : Bounds) (budget : Budget) (targets sources : List Entry) (rows : List Row) (answers : List Judged) → rows ≡ [] → AreAnswersUpTo first bounds budget (judged_pairs targets sources) answers → IsSoFar first bounds budget targets sources 0 rows answers answers
no_rows first bounds budget targets sources rows answers e each = rw e (record { rows_so_far = λ more are. are; answered = each; reported = refl })

here : (sources : List Entry) (i : ℕ) (source : Entry) → i < length sources → get_or sources i source ≡ source → drop i sources ≡ source ∷ drop (i + 1) sources
here sources i source below is = drop_more sources i source below ∙ ap (λ (x : Entry). x ∷ drop (i + 1) sources) is

pub has_next : (first : Bool) (bounds : Bounds) (budget : Budget) (targets sources : List Entry) (i : ℕ) (source : Entry) (rows : List Row) (left answers : List Judged) → i < length sources → get_or sources i source ≡ source
    → IsSoFar first bounds budget targets sources i rows left answers → HasNext bounds budget (pairs_in source.function (function_named targets source.name)) left
has_next first bounds budget targets sources i source rows left answers below is far =
    answers_first first bounds budget _ (judged_pairs targets (drop (i + 1) sources)) left (one_pair source.function (function_named targets source.name))
    (subst (λ (es : List Entry). AreAnswersUpTo first bounds budget (judged_pairs targets es) left) (here sources i source below is) far.answered)

pub record IsWhole (first : Bool) (bounds : Bounds) (budget : Budget) (targets sources : List Entry) (rows : List Row) (answers : List Judged) : Type 0 where
  pub rows_are : AreSourceRows first (may_answer bounds budget) bounds targets sources rows
  pub reported : verdicts_of rows ≡ verdicts_answered answers

ended_here : (first : Bool) (row : Row) (Rest : Type 0) → ends first row ≡ true → GoesOn {X = Row} (ends first row) [] Rest
ended_here first row Rest ended =
    let none : ◌≡◌ {A = List Row} [] [] = refl in
    subst (λ b. GoesOn {X = Row} b [] Rest) (sym ended) none

-- one more row
module _ (first : Bool) (bounds : Bounds) (budget : Budget) (targets sources : List Entry) (i : ℕ) (source : Entry) (row : Row) (rows rows' : List Row) (left left' answers : List Judged)
    (below : i < length sources) (is : get_or sources i source ≡ source) (e : rows' ≡ rows ++ row ∷ []) (far : IsSoFar first bounds budget targets sources i rows left answers)
    (one : IsRow (may_answer bounds budget) bounds targets source row) (taken : IsTaken (pairs_in source.function (function_named targets source.name)) (verdicts_in row.finding) left left') where
  abbrev Rows : List Entry → List Row → Type 0
  Rows entries more = AreSourceRows first (may_answer bounds budget) bounds targets entries more

  with_row : (more : List Row) → GoesOn (ends first row) more (Rows (drop (i + 1) sources) more) → Rows sources (rows' ++ more)
  with_row more goes =
      let next : Rows (drop i sources) (row ∷ more) = subst (λ (es : List Entry). Rows es (row ∷ more)) (sym (here sources i source below is)) (one, goes) in
      subst (λ (rs : List Row). Rows sources (rs ++ more)) (sym e) (subst (λ (rs : List Row). Rows sources rs) (sym (append_assoc rows (row ∷ []) more)) (far.rows_so_far (row ∷ more) next))

  told : verdicts_of rows' ++ verdicts_answered left' ≡ verdicts_answered answers
  told =
      let n : ℕ = length (pairs_in source.function (function_named targets source.name)) in
      let more : verdicts_of rows' ≡ verdicts_of rows ++ verdicts_answered (take n left) =
      ap verdicts_of e ∙ flat_map-append (λ (r : Row). verdicts_in r.finding) rows (row ∷ []) ∙ ap (λ (vs : List Verdict). verdicts_of rows ++ vs) (append-nil (verdicts_in row.finding) ∙ taken.reported) in
      ap (λ (vs : List Verdict). vs ++ verdicts_answered left') more
      ∙ ap (λ (xs : List Judged). (verdicts_of rows ++ verdicts_answered (take n left)) ++ verdicts_answered xs) taken.left
      ∙ append_assoc (verdicts_of rows) (verdicts_answered (take n left)) (verdicts_answered (drop n left))
      ∙ ap (λ (vs : List Verdict). verdicts_of rows ++ vs) (sym (verdicts_cut n left))
      ∙ far.reported

  goes_on : GoesOn (ends first row) left' (AreAnswersUpTo first bounds budget (judged_pairs targets (drop (i + 1) sources)) left')
  goes_on =
      taken_goes first bounds budget (pairs_in source.function (function_named targets source.name)) (judged_pairs targets (drop (i + 1) sources)) row left left' (one_pair source.function (function_named targets source.name))
      (subst (λ (es : List Entry). AreAnswersUpTo first bounds budget (judged_pairs targets es) left) (here sources i source below is) far.answered) taken

  pub one_row : ends first row ≡ false → IsSoFar first bounds budget targets sources (i + 1) rows' left' answers
  one_row on = record {
    rows_so_far = λ more are. with_row more (subst (λ b. GoesOn b more (Rows (drop (i + 1) sources) more)) (sym on) are);
    answered = subst (λ b. GoesOn b left' (AreAnswersUpTo first bounds budget (judged_pairs targets (drop (i + 1) sources)) left')) on goes_on;
    reported = told;
  }

  -- it ends the report
  pub last_row : ends first row ≡ true → IsWhole first bounds budget targets sources rows' answers
  last_row ended =
      let gone : left' ≡ [] = subst (λ b. GoesOn b left' (AreAnswersUpTo first bounds budget (judged_pairs targets (drop (i + 1) sources)) left')) ended goes_on in
      record {
        rows_are = subst (Rows sources) (append-nil rows') (with_row [] (ended_here first row (Rows (drop (i + 1) sources) []) ended));
        reported = sym (append-nil (verdicts_of rows')) ∙ ap (λ (xs : List Judged). verdicts_of rows' ++ verdicts_answered xs) (sym gone) ∙ told;
      }

pub all_rows : (first : Bool) (bounds : Bounds) (budget : Budget) (targets sources : List Entry) (i : ℕ) (rows : List Row) (left answers : List Judged) → length sources ≤ i → IsSoFar first bounds budget targets sources i rows left answers → IsWhole first bounds budget targets sources rows answers
all_rows first bounds budget targets sources i rows left answers past far =
    let end : drop i sources ≡ [] = drop_all i sources past in
    let gone : left ≡ [] = none_left first bounds budget left (subst (λ (es : List Entry). AreAnswersUpTo first bounds budget (judged_pairs targets es) left) end far.answered) in
    record {
      rows_are =
          let none : AreSourceRows first (may_answer bounds budget) bounds targets (drop i sources) [] = subst (λ (es : List Entry). AreSourceRows first (may_answer bounds budget) bounds targets es []) (sym end) tt in
          subst (λ (rs : List Row). AreSourceRows first (may_answer bounds budget) bounds targets sources rs) (append-nil rows) (far.rows_so_far [] none);
      reported = sym (append-nil (verdicts_of rows)) ∙ ap (λ (xs : List Judged). verdicts_of rows ++ verdicts_answered xs) (sym gone) ∙ far.reported;
    }

-- ---- the rows of only the target have no verdict

extra_verdicts : (sources targets : List Entry) → verdicts_of (extra_rows sources targets) ≡ []
extra_verdicts sources [] = refl
extra_verdicts sources (t ∷ ts) = cases (function_named sources t.name) (extra_verdicts sources ts)
  where
    cases : (o : Option (Result Function Refused)) → verdicts_of (extra_rows sources ts) ≡ [] → verdicts_of (if is_some o then extra_rows sources ts else extra_row t ∷ extra_rows sources ts) ≡ []
    cases (Some f) none = none
    cases None none = none

unless_ended : (ended : Bool) (sources targets : List Entry) → verdicts_of (cond ended [] (extra_rows sources targets)) ≡ []
unless_ended true sources targets = refl
unless_ended false sources targets = extra_verdicts sources targets

pub verdicts_with_extra : (first : Bool) (sources targets : List Entry) (rows all : List Row) → all ≡ rows ++ cond (list_any (ends first) rows) [] (extra_rows sources targets) → verdicts_of all ≡ verdicts_of rows
verdicts_with_extra first sources targets rows all e =
    ap verdicts_of e ∙ flat_map-append (λ (r : Row). verdicts_in r.finding) rows (cond (list_any (ends first) rows) [] (extra_rows sources targets))
    ∙ ap (λ (vs : List Verdict). verdicts_of rows ++ vs) (unless_ended (list_any (ends first) rows) sources targets) ∙ append-nil (verdicts_of rows)
