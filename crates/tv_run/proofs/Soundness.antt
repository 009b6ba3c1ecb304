-- The rows of two modules are sound.
use Rattle.tv_run.proofs.Common.{◌≡◌, ◌≤◌, ◌⊎◌, ◌+◌, ◌||◌, ℕ, zero, suc, arith, Bool, true, false, true≢false, cond, List, [], ◌∷◌, Option, Some, None, Result, Ok, Err, refl, sym, ap, subst, ◌∙◌, inl, inr, is_some, if◌then◌else◌, ◌&&◌, list_any, count_by, IsDistinct, AllByRecursion, ltb-false, All-contains_itself, All-weaker, Contains-append_cases, Contains-append_left, Contains-append_right, Name, Number, Word, Function, Refused, Entry, Module, IsModule, Bounds, Budget, Point, Shown, Verdict, Functions, same_signature, Finding, Row, function_named, IsJudged, IsCompared, IsFinding, IsRow, ends, GoesOn, AreSourceRows, AreRows, after_row, rows_whole, whole_is, extra_row, extra_rows, has_some, is_of_class, status_of, FileReportsAreSound, ReportsAreSound, may_answer, entry_names, HasFunction, HoldsThroughout, IsPairNamed, IsRefined, HasVerdict, IsSound}
use Rattle.std.specs.Prelude.{Contains}
use Rattle.std.proofs.lemmas.List.Folds.{list_any_none}
use Rattle.std.proofs.lemmas.List.Sums.{sum_by-cons}
use Rattle.std.proofs.lemmas.Map.Keys.{IsDistinct-head, IsDistinct-tail}
use Rattle.std.proofs.lemmas.Slice.Eq.{bytes_eq-Decides}
use Rattle.ir_tree.specs.Names.{same_name}
use Rattle.ir_reader.proofs.Different.{different}
use Rattle.ir_reader.proofs.Limits.{all-judgeable}
use Rattle.ir_reader.specs.Judgeable.{IsJudgeable, IsJudgeableEntry}
use Rattle.verdicts.specs.declared.verdict.Verdict.TheVariants as verdict
use Rattle.verdicts.specs.Laws.{AreAccepted, IsAccepted, Holds, IsCounterexample, CorrectHolds, IncorrectFails}
use Rattle.report.specs.declared.row.Finding.TheVariants as finding
use Rattle.report.specs.declared.status.Class.{Class}
use Rattle.report.specs.declared.status.Class.TheVariants as class
use Rattle.module_rows.proofs.Searches.{same_name-flips}
use Rattle.tv_run.specs.Answers.{IsJudgeableModule}
use Rattle.tv_run.proofs.Named.{names_read}

-- ---- elements of a list

no_element : {X : Type 0} (y : X) → Contains [] y → ⊥
no_element y (k, lt, e) = absurd (omega arith)

contains_first : {X : Type 0} (x : X) (xs : List X) → Contains (x ∷ xs) x
contains_first x xs = (0, omega arith, refl)

contains_later : {X : Type 0} (x : X) (xs : List X) (y : X) → Contains xs y → Contains (x ∷ xs) y
contains_later x xs y (k, lt, e) = (suc k, omega arith, e)

contains_cases : {X : Type 0} (x : X) (xs : List X) (y : X) → Contains (x ∷ xs) y → (x ≡ y) ⊎ Contains xs y
contains_cases x xs y (zero, lt, e) = inl e
contains_cases x xs y (suc k, lt, e) = inr (k, omega arith, e)

-- ---- names

same_name-same : (m n : Name) → same_name m n ≡ true → m ≡ n
same_name-same (Number a) (Number b) e = ap Number ((bytes_eq-Decides a b).0 e)
same_name-same (Word a) (Word b) e = ap Word ((bytes_eq-Decides a b).0 e)
same_name-same (Number a) (Word b) e = absurd (cc e)
same_name-same (Word a) (Number b) e = absurd (cc e)

same_name-itself : (n : Name) → same_name n n ≡ true
same_name-itself (Number a) = (bytes_eq-Decides a a).1 refl
same_name-itself (Word a) = (bytes_eq-Decides a a).1 refl

-- an entry of that name, with this function
record IsEntryNamed (es : List Entry) (name : Name) (function : Result Function Refused) : Type 0 where
  pub entry : Entry
  pub there : Contains es entry
  pub named : entry.name ≡ name
  pub function_is : entry.function ≡ function

some_is : (a b : Result Function Refused) → Some a ≡ Some b → a ≡ b
some_is a b e = cc e

entry_named : (es : List Entry) (name : Name) (function : Result Function Refused) → function_named es name ≡ Some function → IsEntryNamed es name function
entry_named [] name function e = absurd (cc e)
entry_named (x ∷ es) name function e = go (same_name name x.name) refl (entry_named es name function) e
  where
    go : (b : Bool) → same_name name x.name ≡ b → (function_named es name ≡ Some function → IsEntryNamed es name function) → (if b then Some x.function else function_named es name) ≡ Some function → IsEntryNamed (x ∷ es) name function
    go true is rest h = record { entry = x; there = contains_first x es; named = sym (same_name-same name x.name is); function_is = some_is x.function function h }
    go false is rest h = let r = rest h in record { entry = r.entry; there = contains_later x es r.entry r.there; named = r.named; function_is = r.function_is }

other_name : (es : List Entry) (n : Name) (e : Entry) → AllByRecursion (λ (m : Name). same_name n m ≡ false) (entry_names es) → Contains es e → same_name n e.name ≡ false
other_name [] n e all here = absurd (no_element e here)
other_name (x ∷ es) n e all here = go (contains_cases x es e here) (other_name es n e all.1)
  where
    go : (x ≡ e) ⊎ Contains es e → (Contains es e → same_name n e.name ≡ false) → same_name n e.name ≡ false
    go (inl is) rest = subst (λ (y : Entry). same_name n y.name ≡ false) is all.0
    go (inr later) rest = rest later

-- where no two entries have one name, each is the one of its name
function_named-once : (es : List Entry) (e : Entry) → IsDistinct same_name (entry_names es) → Contains es e → function_named es e.name ≡ Some e.function
function_named-once [] e apart here = absurd (no_element e here)
function_named-once (x ∷ es) e apart here = go (contains_cases x es e here) (function_named-once es e (IsDistinct-tail same_name x.name (entry_names es) apart))
  where
    go : (x ≡ e) ⊎ Contains es e → (Contains es e → function_named es e.name ≡ Some e.function) → function_named (x ∷ es) e.name ≡ Some e.function
    go (inl is) rest = subst (λ (y : Entry). function_named (x ∷ es) y.name ≡ Some y.function) is (rw (same_name-itself x.name) refl)
    go (inr later) rest =
        let apart_from : same_name e.name x.name ≡ false = same_name-flips e.name x.name ∙ other_name es x.name e (IsDistinct-head same_name x.name (entry_names es) apart) later in
        rw apart_from (rest later)

-- ---- rows

-- a row is that of some function of the source
row_of : (first : Bool) (may : Functions → Verdict → Type 0) (bounds : Bounds) (targets sources : List Entry) (rows : List Row) (row : Row) → AreSourceRows first may bounds targets sources rows → Contains rows row → (source : Entry) × Contains sources source × IsRow may bounds targets source row
row_of first may bounds targets [] [] row are here = absurd (no_element row here)
row_of first may bounds targets [] (r ∷ rows) row are here = absurd are
row_of first may bounds targets (s ∷ sources) [] row are here = absurd are
row_of first may bounds targets (s ∷ sources) (r ∷ rows) row are here =
    go (contains_cases r rows row here)
    (after_row (λ (rs : List Row). Contains rs row → (source : Entry) × Contains sources source × IsRow may bounds targets source row) (ends first r) rows (AreSourceRows first may bounds targets sources rows)
    (λ none. absurd (no_element row none)) (row_of first may bounds targets sources rows row) are.1)
  where
    go : (r ≡ row) ⊎ Contains rows row → (Contains rows row → (source : Entry) × Contains sources source × IsRow may bounds targets source row) → (source : Entry) × Contains (s ∷ sources) source × IsRow may bounds targets source row
    go (inl is) rest = (s, contains_first s sources, subst (λ (x : Row). IsRow may bounds targets s x) is are.0)
    go (inr later) rest = let found = rest later in (found.0, contains_later s sources found.0 found.1, found.2)

-- each function of the source has a row, where none ends the report
row_for : (may : Functions → Verdict → Type 0) (bounds : Bounds) (targets sources : List Entry) (rows : List Row) (source : Entry) → AreSourceRows false may bounds targets sources rows → Contains sources source → (row : Row) × Contains rows row × IsRow may bounds targets source row
row_for may bounds targets [] rows source are here = absurd (no_element source here)
row_for may bounds targets (s ∷ sources) [] source are here = absurd are
row_for may bounds targets (s ∷ sources) (r ∷ rows) source are here = go (contains_cases s sources source here) (row_for may bounds targets sources rows source are.1)
  where
    go : (s ≡ source) ⊎ Contains sources source → (Contains sources source → (row : Row) × Contains rows row × IsRow may bounds targets source row) → (row : Row) × Contains (r ∷ rows) row × IsRow may bounds targets source row
    go (inl is) rest = (r, contains_first r rows, subst (λ (x : Entry). IsRow may bounds targets x r) is are.0)
    go (inr later) rest = let found = rest later in (found.0, contains_later r rows found.0 found.1, found.2)

extra_finding : (sources targets : List Entry) (row : Row) → Contains (extra_rows sources targets) row → row.finding ≡ finding.Extra
extra_finding sources [] row here = absurd (no_element row here)
extra_finding sources (t ∷ ts) row here = go (function_named sources t.name) (extra_finding sources ts row) here
  where
    first : (extra_row t ≡ row) ⊎ Contains (extra_rows sources ts) row → (Contains (extra_rows sources ts) row → row.finding ≡ finding.Extra) → row.finding ≡ finding.Extra
    first (inl is) rest = ap (λ (r : Row). r.finding) (sym is)
    first (inr later) rest = rest later

    go : (o : Option (Result Function Refused)) → (Contains (extra_rows sources ts) row → row.finding ≡ finding.Extra) → Contains (if is_some o then extra_rows sources ts else extra_row t ∷ extra_rows sources ts) row → row.finding ≡ finding.Extra
    go (Some f) rest h = rest h
    go None rest h = first (contains_cases (extra_row t) (extra_rows sources ts) row h) rest

unless_ended : (ended : Bool) (extra : List Row) (row : Row) → Contains (cond ended [] extra) row → Contains extra row
unless_ended true extra row here = absurd (no_element row here)
unless_ended false extra row here = here

-- ---- rows with a verdict

-- the pair that a finding judges
record IsFoundOf (may : Functions → Verdict → Type 0) (bounds : Bounds) (source : Result Function Refused) (target : Option (Result Function Refused)) (found : Finding) : Type 0 where
  pub pair : Functions
  pub source_is : source ≡ Ok pair.source
  pub target_is : target ≡ Some (Ok pair.target)
  pub signature : same_signature pair.source pair.target ≡ true
  pub judged : IsJudged may bounds pair found

without_verdict : (found other : Finding) → HasVerdict found → found ≡ other → HasVerdict other
without_verdict found other has is = subst HasVerdict is has

found_of : (may : Functions → Verdict → Type 0) (bounds : Bounds) (source : Result Function Refused) (target : Option (Result Function Refused)) (found : Finding) → HasVerdict found → IsFinding may bounds source target found → IsFoundOf may bounds source target found
found_of may bounds source None found has is = absurd (without_verdict found finding.Missing has is)
found_of may bounds (Err refused) (Some target) found has is = absurd (without_verdict found _ has is)
found_of may bounds (Ok f) (Some (Err refused)) found has is = absurd (without_verdict found _ has is)
found_of may bounds (Ok f) (Some (Ok g)) found has is = go (same_signature f g) refl is
  where
    go : (same : Bool) → same_signature f g ≡ same → IsCompared may bounds (record { source = f; target = g }) same found → IsFoundOf may bounds (Ok f) (Some (Ok g)) found
    go true e h = record { pair = record { source = f; target = g }; source_is = refl; target_is = refl; signature = e; judged = h }
    go false e h = absurd (without_verdict found finding.Signature has h)

-- the pair of a row with a verdict
record IsRowOf (may : Functions → Verdict → Type 0) (bounds : Bounds) (source target : Module) (row : Row) : Type 0 where
  pub pair : Functions
  pub named : IsPairNamed source target row.name pair
  pub judged : IsJudged may bounds pair row.finding

judged_row : (first : Bool) (may : Functions → Verdict → Type 0) (bounds : Bounds) (source target : Module) (rows : List Row) (row : Row) → AreRows first may bounds source target rows → Contains rows row → HasVerdict row.finding → IsRowOf may bounds source target row
judged_row first may bounds source target rows row are here has =
    go (Contains-append_cases are.judged (cond (list_any (ends first) are.judged) [] (extra_rows source.entries target.entries)) row (subst (λ (rs : List Row). Contains rs row) are.all here))
  where
    go : Contains are.judged row ⊎ Contains (cond (list_any (ends first) are.judged) [] (extra_rows source.entries target.entries)) row → IsRowOf may bounds source target row
    go (inr extra) = absurd (without_verdict row.finding finding.Extra has (extra_finding source.entries target.entries row (unless_ended (list_any (ends first) are.judged) (extra_rows source.entries target.entries) row extra)))
    go (inl judged) =
        let of = row_of first may bounds target.entries source.entries are.judged row are.each judged in
        let found = found_of may bounds of.0.function (function_named target.entries of.0.name) row.finding has of.2.found in
        let at = entry_named target.entries of.0.name (Ok found.pair.target) found.target_is in
        record {
          pair = found.pair;
          named = record {
            source_has = record { entry = of.0; there = of.1; named = sym of.2.name; accepted = found.source_is };
            target_has = record { entry = at.entry; there = at.there; named = at.named ∙ sym of.2.name; accepted = at.function_is };
            signature = found.signature;
          };
          judged = found.judged;
        }

-- ---- what the reader accepts

judgeable_entry : (es : List Entry) (e : Entry) → AllByRecursion IsJudgeableEntry es → Contains es e → IsJudgeableEntry e
judgeable_entry [] e all here = absurd (no_element e here)
judgeable_entry (x ∷ es) e all here = go (contains_cases x es e here) (judgeable_entry es e all.1)
  where
    go : (x ≡ e) ⊎ Contains es e → (Contains es e → IsJudgeableEntry e) → IsJudgeableEntry e
    go (inl is) rest = subst IsJudgeableEntry is all.0
    go (inr later) rest = rest later

accepted_function : (m : Module) (name : Name) (f : Function) → AllByRecursion IsJudgeableEntry m.entries → HasFunction m name f → IsAccepted f
accepted_function m name f all has =
    let known = judgeable_entry m.entries has.entry all has.there f has.accepted in
    record { numbered = known.numbered; well_formed = known.well_formed; undefs = known.undefs }

accepted_pair : (source target : Module) (name : Name) (pair : Functions) → AllByRecursion IsJudgeableEntry source.entries → AllByRecursion IsJudgeableEntry target.entries
    → IsPairNamed source target name pair → AreAccepted pair
accepted_pair source target name pair all target_all named = record {
  source = accepted_function source name pair.source all named.source_has;
  target = accepted_function target name pair.target target_all named.target_has;
}

-- ---- what a verdict means

correct_row : CorrectHolds → (bounds : Bounds) (budget : Budget) (pair : Functions) (found : Finding) → AreAccepted pair → found ≡ finding.Correct → IsJudged (may_answer bounds budget) bounds pair found → Holds pair bounds
correct_row holds bounds budget pair found accepted is judged = go (subst (IsJudged (may_answer bounds budget) bounds pair) is judged)
  where
    go : may_answer bounds budget pair verdict.Correct → Holds pair bounds
    go (inl v) = holds pair bounds budget accepted v
    go (inr spent) = absurd (let e = spent.is in cc e)

incorrect_row : IncorrectFails → (bounds : Bounds) (budget : Budget) (pair : Functions) (found : Finding) (p : Point) (shown : Shown) → AreAccepted pair → found ≡ finding.Incorrect p shown → IsJudged (may_answer bounds budget) bounds pair found → IsCounterexample pair bounds p
incorrect_row fails bounds budget pair found p shown accepted is judged = let h = subst (IsJudged (may_answer bounds budget) bounds pair) is judged in go h.0
  where
    go : may_answer bounds budget pair (verdict.Incorrect p) → IsCounterexample pair bounds p
    go (inl v) = fails pair bounds budget p accepted v
    go (inr spent) = absurd (let e = spent.is in cc e)

-- ---- a name has one pair

some_function : (f g : Function) (a b : Option (Result Function Refused)) → a ≡ b → a ≡ Some (Ok f) → b ≡ Some (Ok g) → f ≡ g
some_function f g a b e is has = cc

function_at : (m : Module) (name : Name) (f : Function) → IsDistinct same_name (entry_names m.entries) → HasFunction m name f → function_named m.entries name ≡ Some (Ok f)
function_at m name f apart has =
    ap (function_named m.entries) (sym has.named) ∙ function_named-once m.entries has.entry apart has.there ∙ ap (λ (r : Result Function Refused). Some r) has.accepted

function_one : (m : Module) (name : Name) (f g : Function) → IsDistinct same_name (entry_names m.entries) → HasFunction m name f → HasFunction m name g → f ≡ g
function_one m name f g apart x y = some_function f g (function_named m.entries name) (function_named m.entries name) refl (function_at m name f apart x) (function_at m name g apart y)

pair_one : (source target : Module) (name : Name) (pair other : Functions) → IsDistinct same_name (entry_names source.entries) → IsDistinct same_name (entry_names target.entries) → IsPairNamed source target name pair → IsPairNamed source target name other → pair ≡ other
pair_one source target name pair other apart target_apart x y =
    let make : Function → Function → Functions = λ s t. record { source = s; target = t } in
    ap (λ (s : Function). make s pair.target) (function_one source name pair.source other.source apart x.source_has y.source_has)
    ∙ ap (λ (t : Function). make other.source t) (function_one target name pair.target other.target target_apart x.target_has y.target_has)

-- ---- no pair is left out

judged_verdict : (may : Functions → Verdict → Type 0) (bounds : Bounds) (pair : Functions) (found : Finding) → IsJudged may bounds pair found → HasVerdict found
judged_verdict may bounds pair finding.Correct h = tt
judged_verdict may bounds pair (finding.Incorrect p shown) h = tt
judged_verdict may bounds pair (finding.Unknown cause) h = tt
judged_verdict may bounds pair (finding.Refused side refused) h = absurd h
judged_verdict may bounds pair finding.Signature h = absurd h
judged_verdict may bounds pair finding.Missing h = absurd h
judged_verdict may bounds pair finding.Extra h = absurd h

pair_verdict : (may : Functions → Verdict → Type 0) (bounds : Bounds) (source : Result Function Refused) (target : Option (Result Function Refused)) (pair : Functions) (found : Finding) → source ≡ Ok pair.source → target ≡ Some (Ok pair.target) → same_signature pair.source pair.target ≡ true → IsFinding may bounds source target found → HasVerdict found
pair_verdict may bounds source target pair found is has same h =
    let at : IsFinding may bounds (Ok pair.source) (Some (Ok pair.target)) found =
    subst (λ (s : Result Function Refused). IsFinding may bounds s (Some (Ok pair.target)) found) is (subst (λ (t : Option (Result Function Refused)). IsFinding may bounds source t found) has h) in
    judged_verdict may bounds pair found (subst (λ (b : Bool). IsCompared may bounds pair b found) same at)

pair_row : (may : Functions → Verdict → Type 0) (bounds : Bounds) (source target : Module) (rows : List Row) (name : Name) (pair : Functions) → IsDistinct same_name (entry_names target.entries) → AreRows false may bounds source target rows → IsPairNamed source target name pair
    → (row : Row) × Contains rows row × (row.name ≡ name) × HasVerdict row.finding
pair_row may bounds source target rows name pair apart are named =
    let s = named.source_has.entry in
    let of = row_for may bounds target.entries source.entries are.judged s are.each named.source_has.there in
    let here : Contains rows of.0 = subst (λ (rs : List Row). Contains rs of.0) (sym (whole_is may bounds source target rows are)) (Contains-append_left are.judged (extra_rows source.entries target.entries) of.0 of.1) in
    let target_is : function_named target.entries s.name ≡ Some (Ok pair.target) =
    ap (function_named target.entries) named.source_has.named ∙ function_at target name pair.target apart named.target_has in
    (of.0, here, of.2.name ∙ named.source_has.named, pair_verdict may bounds s.function (function_named target.entries s.name) pair of.0.finding named.source_has.accepted target_is named.signature of.2.found)

has_verdict : (found other : Finding) → found ≡ other → HasVerdict other → HasVerdict found
has_verdict found other is has = subst HasVerdict (sym is) has

-- ---- status 0

-- a test that no row passes fails at each
not_counted : (p : Row → Bool) (rows : List Row) (row : Row) → count_by p rows ≤ 0 → Contains rows row → p row ≡ false
not_counted p [] row none here = absurd (no_element row here)
not_counted p (r ∷ rows) row none here =
    let counted : count_by p (r ∷ rows) ≡ cond (p r) 1 0 + count_by p rows = sum_by-cons (λ (x : Row). cond (p x) 1 0) r rows in
    go (p r) refl (subst (λ (n : ℕ). n ≤ 0) counted none) (contains_cases r rows row here) (not_counted p rows row)
  where
    go : (b : Bool) → p r ≡ b → cond b 1 0 + count_by p rows ≤ 0 → (r ≡ row) ⊎ Contains rows row → (count_by p rows ≤ 0 → Contains rows row → p row ≡ false) → p row ≡ false
    go true is less at rest = absurd (omega (arith, less))
    go false is less (inl same) rest = subst (λ (x : Row). p x ≡ false) same is
    go false is less (inr later) rest = rest (omega (arith, less)) later

none_counted : (a b c d e f : Bool) → ◌≡◌ {A = ℕ} (if a then 1 else (if b then 2 else (if c || d || e || f then 3 else 0))) 0
    → (a ≡ false) × (b ≡ false) × (c ≡ false) × (d ≡ false) × (e ≡ false) × (f ≡ false)
none_counted true b c d e f is = absurd (cc is)
none_counted false true c d e f is = absurd (cc is)
none_counted false false true d e f is = absurd (cc is)
none_counted false false false true e f is = absurd (cc is)
none_counted false false false false true f is = absurd (cc is)
none_counted false false false false false true is = absurd (cc is)
none_counted false false false false false false is = (refl, refl, refl, refl, refl, refl)

not_of_class : (c : Class) (rows : List Row) (row : Row) → has_some c rows ≡ false → Contains rows row → is_of_class c row.finding ≡ true → ⊥
not_of_class c rows row none here is = true≢false (sym is ∙ not_counted (λ r. is_of_class c r.finding) rows row (ltb-false _ _ none) here)

each_correct : (rows : List Row) (row : Row) → status_of rows ≡ 0 → Contains rows row → row.finding ≡ finding.Correct
each_correct rows row none here =
    go row.finding refl
    (none_counted (has_some class.Incorrect rows) (has_some class.Unknown rows) (has_some class.Refused rows) (has_some class.Signature rows) (has_some class.Missing rows) (has_some class.Extra rows) none)
  where
    go : (found : Finding) → row.finding ≡ found
        → (has_some class.Incorrect rows ≡ false) × (has_some class.Unknown rows ≡ false) × (has_some class.Refused rows ≡ false) × (has_some class.Signature rows ≡ false) × (has_some class.Missing rows ≡ false) × (has_some class.Extra rows ≡ false)
        → row.finding ≡ finding.Correct
    go finding.Correct is all = is
    go (finding.Incorrect p shown) is all = absurd (not_of_class class.Incorrect rows row all.0 here (ap (is_of_class class.Incorrect) is))
    go (finding.Unknown cause) is all = absurd (not_of_class class.Unknown rows row all.1 here (ap (is_of_class class.Unknown) is))
    go (finding.Refused side refused) is all = absurd (not_of_class class.Refused rows row all.2 here (ap (is_of_class class.Refused) is))
    go finding.Signature is all = absurd (not_of_class class.Signature rows row all.3 here (ap (is_of_class class.Signature) is))
    go finding.Missing is all = absurd (not_of_class class.Missing rows row all.4 here (ap (is_of_class class.Missing) is))
    go finding.Extra is all = absurd (not_of_class class.Extra rows row all.5 here (ap (is_of_class class.Extra) is))

extra_there : (sources targets : List Entry) (t : Entry) → function_named sources t.name ≡ None → Contains targets t → Contains (extra_rows sources targets) (extra_row t)
extra_there sources [] t none here = absurd (no_element t here)
extra_there sources (x ∷ ts) t none here = go (function_named sources x.name) refl (contains_cases x ts t here) (extra_there sources ts t none)
  where
    go : (o : Option (Result Function Refused)) → function_named sources x.name ≡ o → (x ≡ t) ⊎ Contains ts t → (Contains ts t → Contains (extra_rows sources ts) (extra_row t))
        → Contains (if is_some o then extra_rows sources ts else extra_row x ∷ extra_rows sources ts) (extra_row t)
    go (Some f) is (inl same) rest =
        absurd (let e : function_named sources x.name ≡ None = subst (λ (y : Entry). function_named sources y.name ≡ None) (sym same) none in let both : Some f ≡ None = sym is ∙ e in cc both)
    go (Some f) is (inr later) rest = rest later
    go None is (inl same) rest = subst (λ (y : Entry). Contains (extra_row x ∷ extra_rows sources ts) (extra_row y)) same (contains_first (extra_row x) (extra_rows sources ts))
    go None is (inr later) rest = contains_later (extra_row x) (extra_rows sources ts) (extra_row t) (rest later)

module _ (holds : CorrectHolds) (bounds : Bounds) (budget : Budget) (source target : Module) (rows : List Row) (known : IsJudgeableModule source) (target_known : IsJudgeableModule target) (are : AreRows false (may_answer bounds budget) bounds source target rows) (none : status_of rows ≡ 0) where
  source_refined : (entry : Entry) → Contains source.entries entry → IsRefined bounds source target (λ pair. pair.source) entry
  source_refined entry here =
      let of = row_for (may_answer bounds budget) bounds target.entries source.entries are.judged entry are.each here in
      let among : Contains rows of.0 = subst (λ (rs : List Row). Contains rs of.0) (sym (whole_is (may_answer bounds budget) bounds source target rows are)) (Contains-append_left are.judged (extra_rows source.entries target.entries) of.0 of.1) in
      let correct : of.0.finding ≡ finding.Correct = each_correct rows of.0 none among in
      let found = found_of (may_answer bounds budget) bounds entry.function (function_named target.entries entry.name) of.0.finding (has_verdict of.0.finding finding.Correct correct tt) of.2.found in
      let at = entry_named target.entries entry.name (Ok found.pair.target) found.target_is in
      let named : IsPairNamed source target entry.name found.pair = record {
        source_has = record { entry = entry; there = here; named = refl; accepted = found.source_is };
        target_has = record { entry = at.entry; there = at.there; named = at.named; accepted = at.function_is };
        signature = found.signature;
      } in
      record {
        pair = found.pair;
        named = named;
        entry_is = found.source_is;
        holds = correct_row holds bounds budget found.pair of.0.finding (accepted_pair source target entry.name found.pair known.judgeable target_known.judgeable named) correct found.judged;
      }

  target_refined : (entry : Entry) → Contains target.entries entry → IsRefined bounds source target (λ pair. pair.target) entry
  target_refined entry here = go (function_named source.entries entry.name) refl
    where
      go : (o : Option (Result Function Refused)) → function_named source.entries entry.name ≡ o → IsRefined bounds source target (λ pair. pair.target) entry
      go None absent =
          let extra = extra_there source.entries target.entries entry absent here in
          let among : Contains rows (extra_row entry) = subst (λ (rs : List Row). Contains rs (extra_row entry)) (sym (whole_is (may_answer bounds budget) bounds source target rows are)) (Contains-append_right are.judged (extra_rows source.entries target.entries) (extra_row entry) extra) in
          absurd (let e : finding.Extra ≡ finding.Correct = each_correct rows (extra_row entry) none among in cc e)
      go (Some f) is =
          let at = entry_named source.entries entry.name f is in
          let of = source_refined at.entry at.there in
          let named : IsPairNamed source target entry.name of.pair = subst (λ (name : Name). IsPairNamed source target name of.pair) at.named of.named in
          record {
            pair = of.pair;
            named = named;
            entry_is = some_is entry.function (Ok of.pair.target) (sym (function_named-once target.entries entry target_known.distinct here) ∙ function_at target entry.name of.pair.target target_known.distinct named.target_has);
            holds = of.holds;
          }

  holds_throughout : HoldsThroughout bounds source target
  holds_throughout = record {
    of_source = All-weaker (Contains source.entries) (IsRefined bounds source target (λ pair. pair.source)) source_refined source.entries (All-contains_itself source.entries);
    of_target = All-weaker (Contains target.entries) (IsRefined bounds source target (λ pair. pair.target)) target_refined target.entries (All-contains_itself target.entries);
  }

-- ---- status 0 says that no row ends the report

correct_goes_on : (first : Bool) (row : Row) → row.finding ≡ finding.Correct → ends first row ≡ false
correct_goes_on true row is = ap (is_of_class class.Incorrect) is
correct_goes_on false row is = refl

none_ends : (first : Bool) (rows : List Row) → status_of rows ≡ 0 → list_any (ends first) rows ≡ false
none_ends first rows none =
    list_any_none (ends first) rows
    (All-weaker (Contains rows) (λ (row : Row). ends first row ≡ false) (λ row here. correct_goes_on first row (each_correct rows row none here)) rows (All-contains_itself rows))

-- ---- the theorem

rows_are_sound : CorrectHolds → IncorrectFails → (first : Bool) (bounds : Bounds) (budget : Budget) (source target : Module) (rows : List Row) → IsJudgeableModule source → IsJudgeableModule target → AreRows first (may_answer bounds budget) bounds source target rows → IsSound first bounds source target rows
rows_are_sound holds fails first bounds budget source target rows known target_known are = record {
  correct = λ row here is.
      let of = judged_row first (may_answer bounds budget) bounds source target rows row are here (has_verdict row.finding finding.Correct is tt) in
      (of.pair, of.named, correct_row holds bounds budget of.pair row.finding (accepted_pair source target row.name of.pair known.judgeable target_known.judgeable of.named) is of.judged);
  incorrect = λ row point shown here is.
      let of = judged_row first (may_answer bounds budget) bounds source target rows row are here (has_verdict row.finding (finding.Incorrect point shown) is tt) in
      (of.pair, of.named, incorrect_row fails bounds budget of.pair row.finding point shown (accepted_pair source target row.name of.pair known.judgeable target_known.judgeable of.named) is of.judged);
  one = λ name pair other x y. pair_one source target name pair other known.distinct target_known.distinct x y;
  whole = λ none name pair named.
      pair_row (may_answer bounds budget) bounds source target rows name pair target_known.distinct (rows_whole first (may_answer bounds budget) bounds source target rows are none) named;
  throughout = λ none.
      holds_throughout holds bounds budget source target rows known target_known (rows_whole first (may_answer bounds budget) bounds source target rows are (none_ends first rows none)) none;
}

pub reports_are_sound : CorrectHolds → IncorrectFails → ReportsAreSound
reports_are_sound holds fails first bounds budget source target answers text status known target_known report =
    rows_are_sound holds fails first bounds budget source target report.rows known target_known report.are_rows

-- a text that is a module is one that the judge takes
module_known : (text : List ℕ) (m : Module) → IsModule text m → IsJudgeableModule m
module_known text m formed = record {
  judgeable = all-judgeable formed.tokens formed.defines m.entries formed.entries;
  distinct = different formed.tokens _ formed.defines m.entries formed.cut formed.entries;
  named = names_read text m formed;
}

pub file_reports_are_sound : ReportsAreSound → FileReportsAreSound
file_reports_are_sound sound files c answers text status report = record {
  source = report.source;
  target = report.target;
  source_is = report.source_is;
  target_is = report.target_is;
  rows = report.report.rows;
  sound =
      sound c.first c.bounds c.budget report.source report.target answers text status
      (module_known report.source_is.text report.source report.source_is.holds.1)
      (module_known report.target_is.text report.target report.target_is.holds.1)
      report.report;
  text_is = report.report.text_is;
  status_is = report.report.status_is;
}
