-- The lines that may follow, from position to position.
use Rattle.proof_text.proofs.Common.{ℕ, ◌≡◌, ◌<◌, ◌≤◌, ◌-◌, Bool, true, false, List, [], ◌∷◌, ◌++◌, length, map, codes, get_or, replicate, All, Contains, append_assoc, subst, sym, ap, ap₂, ◌∙◌, refl, arith, decimal, flat_map, decimal_injective, append_cancel_left, append_cancel_right, length-replicate, same_from_push, All-cons, All-head, All-nil, All-replicate, All-tail, All-weaker, Lit, Step, Head, Part, IsClauseOver, IsHead, IsPart, IsPrintedName, IsSmall, IsStepOver, clause_line, counts_line, head_line, head_lines, log_line, part_lines, proof_with, row_line, status_text, step_line, Clauses, Counts, File, Leads, Limits, Lines, Log, Rest, Rows, Steps, Parts, first_line, Option, Some, None, IfSome}
use Rattle.clause_lits.specs.Meaning.{AreWithin, RisesFrom}
use Rattle.proof_text.proofs.Numbers.{free_decimal}
use Rattle.proof_text.proofs.Splits.{parted, same_parts}

-- ---- samples

abbrev pub Some_lines : (Lines → Type 0) → Type 0
Some_lines before = (more : Lines) × before more

pub some_rows : Some_lines Rows
some_rows = ([], ([], All-nil IsPart, refl))

pub some_file : Some_lines File
some_file = (codes "tvproof 1" ∷ [], (proof_with None [], record { head = tt; parts = All-nil IsPart }, refl))

abbrev empty_head : Head
empty_head = record { turns = 0; blocks = 0; bytes = 0; rounds = 0; conflicts = 0; weight = 0 }

empty_head_fits : IsHead empty_head
empty_head_fits = record { turns = omega arith; blocks = omega arith; bytes = omega arith; rounds = omega arith; conflicts = omega arith; weight = omega arith }

pub some_limits : Some_lines Limits
some_limits = (head_line empty_head ∷ [], (empty_head, [], empty_head_fits, refl, ([], All-nil IsPart, refl)))

abbrev empty_step : Step
empty_step = record { chain = []; clause = [] }

empty_step_fits : (v : ℕ) → IsStepOver v empty_step
empty_step_fits v = record { chain = All-nil (λ n. (0 < n) × IsSmall n); clause = (tt, All-nil (λ l. l.variable ≤ v)) }

pub some_steps : (v n : ℕ) → Some_lines (Steps v n)
some_steps v n = (map step_line (replicate n empty_step) ++ [], (replicate n empty_step, [], length-replicate n empty_step, All-replicate (IsStepOver v) n empty_step (empty_step_fits v), refl, ([], All-nil IsPart, refl)))

pub some_log : (v : ℕ) → Some_lines (Log v)
some_log v = let s = some_steps v 0 in (log_line 0 ∷ s.0, (0, s.0, omega arith, refl, s.1))

pub some_clauses : (v n : ℕ) → Some_lines (Clauses v n)
some_clauses v n = let s = some_log v in (map clause_line (replicate n []) ++ s.0, (replicate n [], s.0, length-replicate n [], All-replicate (IsClauseOver v) n [] (tt, All-nil (λ l. l.variable ≤ v)), refl, s.1))

pub some_counts : Some_lines Counts
some_counts = let s = some_clauses 0 0 in (counts_line 0 0 ∷ s.0, (0, 0, s.0, omega arith, omega arith, refl, s.1))

-- ---- clauses over the variables of a list

rising_above : (n : ℕ) (ls : List Lit) → RisesFrom n ls → All (λ l. n < l.variable) ls
rising_above n [] h = All-nil (λ l. n < l.variable)
rising_above n (l ∷ ls) h = All-cons (λ k. n < k.variable) l ls h.0 (All-weaker (λ k. l.variable < k.variable) (λ k. n < k.variable) (λ k g. omega arith) ls (rising_above l.variable ls h.1))

both : {X : Type 0} (P Q : X → Type 0) (xs : List X) → All P xs → All Q xs → All (λ x. P x × Q x) xs
both P Q xs p q k d l = (p k d l, q k d l)

pub clause_within : (v : ℕ) (c : List Lit) → IsClauseOver v c → All (λ l. (0 < l.variable) × (l.variable ≤ v)) c
clause_within v c f = both (λ l. 0 < l.variable) (λ l. l.variable ≤ v) c (rising_above 0 c f.0) f.1

pub clauses_within : (v : ℕ) (cs : List (List Lit)) → All (IsClauseOver v) cs → AreWithin v cs
clauses_within v cs f = All-weaker (IsClauseOver v) (λ c. All (λ l. (0 < l.variable) × (l.variable ≤ v)) c) (clause_within v) cs f

-- ---- a row

pub part_first : (p : Part) (ps : List Part) → flat_map part_lines (p ∷ ps)
    ≡ row_line p.name p.is_correct ∷ counts_line p.cert.cnf.variables (length p.cert.cnf.clauses)
    ∷ (map clause_line p.cert.cnf.clauses ++ (log_line (length p.cert.log) ∷ (map step_line p.cert.log ++ flat_map part_lines ps)))
part_first p ps = ap (λ (t : Lines). row_line p.name p.is_correct ∷ counts_line p.cert.cnf.variables (length p.cert.cnf.clauses) ∷ t)
    (append_assoc (map clause_line p.cert.cnf.clauses) (log_line (length p.cert.log) ∷ map step_line p.cert.log) (flat_map part_lines ps))

row_to : (row : List ℕ) (more : Lines) (parts : List Part) → All IsPart parts → row ∷ more ≡ flat_map part_lines parts → Counts more
row_to row more [] f e = absurd cc
row_to row more (p ∷ ps) f e =
    let whole = e ∙ part_first p ps in
    let fit = All-head IsPart p ps f in
    let steps = map step_line p.cert.log ++ flat_map part_lines ps in
    let log = log_line (length p.cert.log) ∷ steps in
    let clauses = map clause_line p.cert.cnf.clauses ++ log in
    let is : more ≡ counts_line p.cert.cnf.variables (length p.cert.cnf.clauses) ∷ clauses = cc in (
      p.cert.cnf.variables,
      length p.cert.cnf.clauses,
      clauses,
      fit.variables,
      fit.clause_count,
      is,
      (
        p.cert.cnf.clauses,
        log,
        refl,
        fit.clauses,
        refl,
        (
          length p.cert.log,
          steps,
          fit.step_count,
          refl,
          (
            p.cert.log,
            flat_map part_lines ps,
            refl,
            fit.steps,
            refl,
            (ps, All-tail IsPart p ps f, refl),
          ),
        ),
      ),
    )

abbrev part_of : (name : List ℕ) (is_correct : Bool) (v : ℕ) (cs : List (List Lit)) → AreWithin v cs → List Step → Part
part_of name is_correct v cs within log = record {
  name = name;
  is_correct = is_correct;
  cert = record { cnf = record { variables = v; clauses = cs; front = 0; front_within = omega arith; clauses_within = within }; log = log };
}

row_from : (name : List ℕ) (is_correct : Bool) (more : Lines) → IsPrintedName name → Counts more → Rows (row_line name is_correct ∷ more)
row_from name is_correct more f k =
    let v : ℕ = k.0 in
    let cls = k.6 in
    let cs : List (List Lit) = cls.0 in
    let lg = cls.5 in
    let st = lg.4 in
    let log : List Step = st.0 in
    let rows = st.5 in
    let ps : List Part = rows.0 in
    let p : Part = part_of name is_correct v cs (clauses_within v cs cls.3) log in
    let fit : IsPart p = record {
      name = f;
      variables = k.3;
      clause_count = subst IsSmall (sym cls.2) k.4;
      step_count = subst IsSmall (sym st.2) lg.2;
      clauses = cls.3;
      steps = st.3;
    } in
    let in_steps = st.4 ∙ ap (λ (t : Lines). map step_line log ++ t) rows.2 in
    let in_log = lg.3 ∙ ap₂ (λ (m : ℕ) (t : Lines). log_line m ∷ t) (sym st.2) in_steps in
    let in_clauses = cls.4 ∙ ap (λ (t : Lines). map clause_line cs ++ t) in_log in
    let in_counts = k.5 ∙ ap₂ (λ (m : ℕ) (t : Lines). counts_line v m ∷ t) (sym cls.2) in_clauses in
    (p ∷ ps, All-cons IsPart p ps fit rows.1, ap (λ (t : Lines). row_line name is_correct ∷ t) in_counts ∙ sym (part_first p ps))

pub row_leads : (name : List ℕ) (is_correct : Bool) → IsPrintedName name → Leads Rows (row_line name is_correct ∷ []) Counts
row_leads name is_correct f more = (λ r. row_to (row_line name is_correct) more r.0 r.1 r.2, row_from name is_correct more f)

row_is : (line : List ℕ) (more : Lines) (parts : List Part) → All IsPart parts → line ∷ more ≡ flat_map part_lines parts
    → (name : List ℕ) × (is_correct : Bool) × IsPrintedName name × (line ≡ row_line name is_correct)
row_is line more [] f e = absurd cc
row_is line more (p ∷ ps) f e =
    let whole = e ∙ part_first p ps in
    let is : line ≡ row_line p.name p.is_correct = cc in
    (p.name, p.is_correct, (All-head IsPart p ps f).name, is)

pub row_missing : (line : List ℕ) → ((name : List ℕ) (is_correct : Bool) → IsPrintedName name → line ≡ row_line name is_correct → ⊥) → (more : Lines) → Rows (line ∷ more) → ⊥
row_missing line none more r = let h = row_is line more r.0 r.1 r.2 in none h.0 h.1 h.2 h.3

-- ---- numbers of a line

free_small : (n : ℕ) → IsSmall n → Contains (decimal n) 32 → ⊥
free_small n h i = free_decimal n 32 (omega arith) (omega arith) i

counts_regroup : (v n : ℕ) → counts_line v n ≡ codes "p cnf " ++ (decimal v ++ 32 ∷ decimal n)
counts_regroup v n = simp append_assoc

pub same_counts : (v n w m : ℕ) → IsSmall v → IsSmall n → IsSmall w → IsSmall m → counts_line v n ≡ counts_line w m → (v ≡ w) × (n ≡ m)
same_counts v n w m hv hn hw hm e =
    let inner = append_cancel_left (codes "p cnf ") (decimal v ++ 32 ∷ decimal n) (decimal w ++ 32 ∷ decimal m) (sym (counts_regroup v n) ∙ e ∙ counts_regroup w m) in
    let apart = parted 32 (decimal v) (decimal w) (decimal n) (decimal m) (free_small v hv) (free_small w hw) inner in
    (decimal_injective v w (omega arith) (omega arith) apart.0, decimal_injective n m (omega arith) (omega arith) apart.1)

counts_to : (v n : ℕ) (more : Lines) → IsSmall v → IsSmall n → Counts (counts_line v n ∷ more) → Clauses v n more
counts_to v n more hv hn k =
    let whole = k.5 in
    let heads : counts_line v n ≡ counts_line k.0 k.1 = cc in
    let tails : more ≡ k.2 = cc in
    let same = same_counts v n k.0 k.1 hv hn k.3 k.4 heads in
    subst (λ z. Clauses z n more) (sym same.0) (subst (λ z. Clauses k.0 z more) (sym same.1) (subst (λ z. Clauses k.0 k.1 z) (sym tails) k.6))

pub counts_leads : (v n : ℕ) → IsSmall v → IsSmall n → Leads Counts (counts_line v n ∷ []) (Clauses v n)
counts_leads v n hv hn more = (counts_to v n more hv hn, λ c. (v, n, more, hv, hn, refl, c))

pub counts_missing : (line : List ℕ) → ((v n : ℕ) → IsSmall v → IsSmall n → line ≡ counts_line v n → ⊥) → (more : Lines) → Counts (line ∷ more) → ⊥
counts_missing line none more k = let whole = k.5 in let is : line ≡ counts_line k.0 k.1 = cc in none k.0 k.1 k.3 k.4 is

pub counts_nil : Counts [] → ⊥
counts_nil k = let whole = k.5 in absurd cc

pub same_log : (n m : ℕ) → IsSmall n → IsSmall m → log_line n ≡ log_line m → n ≡ m
same_log n m hn hm e = decimal_injective n m (omega arith) (omega arith) (append_cancel_left (codes "log ") (decimal n) (decimal m) e)

log_to : (v n : ℕ) (more : Lines) → IsSmall n → Log v (log_line n ∷ more) → Steps v n more
log_to v n more hn k =
    let whole = k.3 in
    let heads : log_line n ≡ log_line k.0 = cc in
    let tails : more ≡ k.1 = cc in
    subst (λ z. Steps v z more) (sym (same_log n k.0 hn k.2 heads)) (subst (λ z. Steps v k.0 z) (sym tails) k.4)

pub log_leads : (v n : ℕ) → IsSmall n → Leads (Log v) (log_line n ∷ []) (Steps v n)
log_leads v n hn more = (log_to v n more hn, λ s. (n, more, hn, refl, s))

pub log_missing : (v : ℕ) (line : List ℕ) → ((n : ℕ) → IsSmall n → line ≡ log_line n → ⊥) → (more : Lines) → Log v (line ∷ more) → ⊥
log_missing v line none more k = let whole = k.3 in let is : line ≡ log_line k.0 = cc in none k.0 k.2 is

pub log_nil : (v : ℕ) → Log v [] → ⊥
log_nil v k = let whole = k.3 in absurd cc

-- ---- many lines of a kind

abbrev pub Many : {X : Type 0} → (X → Type 0) → (X → List ℕ) → (Lines → Type 0) → ℕ → Lines → Type 0
Many {X} Fits text After n lines = (xs : List X) × (rest : Lines) × (length xs ≡ n) × All Fits xs × (lines ≡ map text xs ++ rest) × After rest

many_at : {X : Type 0} (Fits : X → Type 0) (text : X → List ℕ) (After : Lines → Type 0) (n : ℕ) (line : List ℕ) (more : Lines) (xs : List X) (rest : Lines) → 0 < n → length xs ≡ n → All Fits xs → line ∷ more ≡ map text xs ++ rest → After rest
    → (x : X) × Fits x × (line ≡ text x) × Many Fits text After (n - 1) more
many_at Fits text After n line more [] rest h len f e a = absurd (omega arith)
many_at Fits text After n line more (x ∷ xs) rest h len f e a =
    let is : line ≡ text x = cc in
    let tails : more ≡ map text xs ++ rest = cc in
    (x, All-head Fits x xs f, is, (xs, rest, omega arith, All-tail Fits x xs f, tails, a))

many_from : {X : Type 0} (Fits : X → Type 0) (text : X → List ℕ) (After : Lines → Type 0) (n : ℕ) (x : X) (more : Lines) → 0 < n → Fits x → Many Fits text After (n - 1) more → Many Fits text After n (text x ∷ more)
many_from Fits text After n x more h f m = (x ∷ m.0, m.1, (let len = m.2 in omega arith), All-cons Fits x m.0 f m.3, ap (λ (t : Lines). text x ∷ t) m.4, m.5)

pub many_leads : {X : Type 0} (Fits : X → Type 0) (text : X → List ℕ) (After : Lines → Type 0) (n : ℕ) (x : X) → 0 < n → Fits x → Leads (Many Fits text After n) (text x ∷ []) (Many Fits text After (n - 1))
many_leads Fits text After n x h f more = (λ m. (many_at Fits text After n (text x) more m.0 m.1 h m.2 m.3 m.4 m.5).3, many_from Fits text After n x more h f)

pub many_missing : {X : Type 0} (Fits : X → Type 0) (text : X → List ℕ) (After : Lines → Type 0) (n : ℕ) (line : List ℕ) → 0 < n → ((x : X) → Fits x → line ≡ text x → ⊥) → (more : Lines) → Many Fits text After n (line ∷ more) → ⊥
many_missing Fits text After n line h none more m = let at = many_at Fits text After n line more m.0 m.1 h m.2 m.3 m.4 m.5 in none at.0 at.1 at.2

none_left : {X : Type 0} (text : X → List ℕ) (n : ℕ) (xs : List X) (rest : Lines) → 0 < n → length xs ≡ n → [] ≡ map text xs ++ rest → ⊥
none_left text n [] rest h len e = absurd (omega arith)
none_left text n (x ∷ xs) rest h len e = absurd cc

pub many_nil : {X : Type 0} (Fits : X → Type 0) (text : X → List ℕ) (After : Lines → Type 0) (n : ℕ) → 0 < n → Many Fits text After n [] → ⊥
many_nil Fits text After n h m = none_left text n m.0 m.1 h m.2 m.4

done_to : {X : Type 0} (text : X → List ℕ) (After : Lines → Type 0) (n : ℕ) (more : Lines) (xs : List X) (rest : Lines) → n ≡ 0 → length xs ≡ n → more ≡ map text xs ++ rest → After rest → After more
done_to text After n more [] rest z len e a = subst After (sym e) a
done_to text After n more (x ∷ xs) rest z len e a = absurd (omega arith)

pub many_done : {X : Type 0} (Fits : X → Type 0) (text : X → List ℕ) (After : Lines → Type 0) (n : ℕ) → n ≡ 0 → Leads (Many Fits text After n) [] After
many_done Fits text After n z more = (λ m. done_to text After n more m.0 m.1 z m.2 m.4 m.5, λ a. ([], more, sym z, All-nil Fits, refl, a))

-- ---- the head

limits_to : (h : Head) (more : Lines) → Limits (head_line h ∷ more) → Rows more
limits_to h more k =
    let whole = k.3 in
    let tails : more ≡ k.1 = cc in
    subst Rows (sym tails) k.4

pub limits_leads : (h : Head) → IsHead h → Leads Limits (head_line h ∷ []) Rows
limits_leads h fit more = (limits_to h more, λ r. (h, more, fit, refl, r))

pub limits_missing : (line : List ℕ) → ((h : Head) → IsHead h → line ≡ head_line h → ⊥) → (more : Lines) → Limits (line ∷ more) → ⊥
limits_missing line none more k = let whole = k.3 in let is : line ≡ head_line k.0 = cc in none k.0 k.2 is

pub limits_nil : Limits [] → ⊥
limits_nil k = let whole = k.3 in absurd cc

-- ---- the file

pub formats_differ : (more others : Lines) → codes "tvproof 1" ∷ more ≡ codes "tvproof 2" ∷ others → ⊥
formats_differ more others e = let z = ap (λ (lines : Lines). get_or (get_or lines 0 []) 8 0) e in omega arith

file_to : (has_head : Bool) (more : Lines) (head : Option Head) (parts : List Part) → IfSome head IsHead → All IsPart parts → first_line has_head ∷ more ≡ head_lines head ++ flat_map part_lines parts → Rest has_head more
file_to true more None parts fh fp e = absurd (formats_differ (flat_map part_lines parts) more (sym e))
file_to true more (Some h) parts fh fp e = let tails : more ≡ head_line h ∷ flat_map part_lines parts = cc in (h, flat_map part_lines parts, fh, tails, (parts, fp, refl))
file_to false more None parts fh fp e = let tails : more ≡ flat_map part_lines parts = cc in (parts, fp, tails)
file_to false more (Some h) parts fh fp e = absurd (formats_differ more (head_line h ∷ flat_map part_lines parts) e)

file_from : (has_head : Bool) (more : Lines) → Rest has_head more → File (first_line has_head ∷ more)
file_from true more k = (
  proof_with (Some k.0) k.4.0,
  record { head = k.2; parts = k.4.1 },
  ap (λ (t : Lines). codes "tvproof 2" ∷ t) (k.3 ∙ ap (λ (t : Lines). head_line k.0 ∷ t) k.4.2),
)
file_from false more r = (proof_with None r.0, record { head = tt; parts = r.1 }, ap (λ (t : Lines). codes "tvproof 1" ∷ t) r.2)

pub file_leads : (has_head : Bool) → Leads File (first_line has_head ∷ []) (Rest has_head)
file_leads has_head more = (λ f. file_to has_head more f.0.head f.0.parts f.1.head f.1.parts f.2, file_from has_head more)

other_line : (line : List ℕ) (more : Lines) (head : Option Head) (parts : List Part) → (line ≡ codes "tvproof 1" → ⊥) → (line ≡ codes "tvproof 2" → ⊥) → line ∷ more ≡ head_lines head ++ flat_map part_lines parts → ⊥
other_line line more None parts plain headed e = let is : line ≡ codes "tvproof 1" = cc in plain is
other_line line more (Some h) parts plain headed e = let is : line ≡ codes "tvproof 2" = cc in headed is

pub file_missing : (line : List ℕ) → (line ≡ codes "tvproof 1" → ⊥) → (line ≡ codes "tvproof 2" → ⊥) → (more : Lines) → File (line ∷ more) → ⊥
file_missing line plain headed more f = other_line line more f.0.head f.0.parts plain headed f.2

no_line : (head : Option Head) (parts : List Part) → [] ≡ head_lines head ++ flat_map part_lines parts → ⊥
no_line None parts e = absurd cc
no_line (Some h) parts e = absurd cc

pub file_nil : File [] → ⊥
file_nil f = no_line f.0.head f.0.parts f.2

-- ---- what is in a line

pub counts_parts : (line words variables clauses : List ℕ) (v n : ℕ) → IsSmall v → line ≡ codes "p cnf " ++ words → Parts 32 words variables clauses → line ≡ counts_line v n → (variables ≡ decimal v) × (clauses ≡ decimal n)
counts_parts line words variables clauses v n h w p e =
    let inner = append_cancel_left (codes "p cnf ") words (decimal v ++ 32 ∷ decimal n) (sym w ∙ e ∙ counts_regroup v n) in
    let same = same_parts 32 words variables clauses (decimal v) (decimal n) p inner (free_small v h) in
    (same.0, same.1)

apart : (n m : List ℕ) → n ++ codes " correct" ≡ m ++ codes " incorrect" → ⊥
apart n m e =
    let left : (n ++ codes " ") ++ codes "correct" ≡ ((m ++ codes " i") ++ codes "n") ++ codes "correct" = append_assoc n (codes " ") (codes "correct") ∙ e ∙ sym (append_assoc m (codes " in") (codes "correct")) ∙ ap (λ t. t ++ codes "correct") (sym (append_assoc m (codes " i") (codes "n"))) in
    let short = append_cancel_right (n ++ codes " ") ((m ++ codes " i") ++ codes "n") (codes "correct") left in
    let same = (same_from_push n (m ++ codes " i") 32 110 short).1 in
    absurd (omega arith)

pub same_status : (n m : List ℕ) (p q : Bool) → n ++ status_text p ≡ m ++ status_text q → n ≡ m
same_status n m true true e = append_cancel_right n m (codes " correct") e
same_status n m false false e = append_cancel_right n m (codes " incorrect") e
same_status n m true false e = absurd (apart n m e)
same_status n m false true e = absurd (apart m n (sym e))

pub same_verdict : (n m : List ℕ) (p q : Bool) → n ++ status_text p ≡ m ++ status_text q → p ≡ q
same_verdict n m true true e = refl
same_verdict n m false false e = refl
same_verdict n m true false e = absurd (apart n m e)
same_verdict n m false true e = absurd (apart m n (sym e))

pub same_name : (line rest name own : List ℕ) (p q : Bool) → line ≡ codes "row @" ++ rest → rest ≡ name ++ status_text p → line ≡ row_line own q → own ≡ name
same_name line rest name own p q h r e =
    same_status own name q p (append_cancel_left (codes "row @") (own ++ status_text q) (name ++ status_text p) (sym e ∙ h ∙ ap (λ t. codes "row @" ++ t) r))
