-- From the lines of a file to its text.
use Rattle.proof_text.proofs.Common.{ℕ, ◌≡◌, ◌≢◌, ◌⊎◌, ◌<◌, ◌^◌, Option, Some, None, IfSome, ◌≤◌, ◌+◌, ◌-◌, ◌==◌, ◌/◌, ◌%◌, ◌||◌, Bool, true, false, cond, not, eqb, List, [], ◌∷◌, ◌++◌, length, map, take, codes, All, Contains, count_by, ne_eqb, sum_by, append_assoc, append-nil, length-append, take_at, subst, sym, ap, ap₂, ◌∙◌, refl, inl, inr, ⊎_elim, arith, decimal, flat_map, list_all, list_any, nat_tests, All-append, All-cons, All-contains, All-head, All-map, All-nil, All-tail, All-weaker, Contains-append_cases, Contains-append_right, Lit, Step, escaped, hex_byte, hex_digit, is_bare, is_digit, is_name_byte, is_plain, quoted, Head, Part, Proof, IsClauseOver, IsHead, IsPart, IsPrintedName, IsProof, IsSmall, IsSpellable, IsStepOver, clause_line, counts_line, ended, head_line, head_lines, literal_text, log_line, part_lines, proof_lines, row_line, spaced, status_text, step_line, File, IsStuck, IsWrong, Lines, and_parts}
use Rattle.std.proofs.lemmas.List.Sums.{sum_by-append, sum_by-cons}
use Rattle.proof_text.specs.FirstFault.{Begin, IsCutShort, IsFirstFault, IsWrongLine}
use Rattle.proof_text.proofs.Heads.{from_blocks, from_bytes, from_conflicts, from_rounds, from_weight, head_regroup}
use Rattle.proof_text.proofs.Numbers.{free_decimal}
use Rattle.proof_text.proofs.Splits.{contains_it, first_or_later, here, parted}

-- ---- no line has a newline

abbrev pub Free : List ℕ → Type 0
Free text = Contains text 10 → ⊥

free_nil : Free []
free_nil i = absurd (omega (arith, i.1))

free_append : (a b : List ℕ) → Free a → Free b → Free (a ++ b)
free_append a b fa fb i = ⊎_elim fa fb (Contains-append_cases a b 10 i)

free_cons : (b : ℕ) (bs : List ℕ) → b ≢ 10 → Free bs → Free (b ∷ bs)
free_cons b bs n f i = ⊎_elim (λ e. n e) f (first_or_later b 10 bs i)

free_number : (n : ℕ) → IsSmall n → Free (decimal n)
free_number n h i = free_decimal n 10 (omega arith) (omega arith) i

free_flat : {X : Type 0} (f : X → List ℕ) (P : X → Type 0) → ((x : X) → P x → Free (f x)) → (xs : List X) → All P xs → Free (flat_map f xs)
free_flat f P h [] a = free_nil
free_flat f P h (x ∷ xs) a = free_append (f x) (flat_map f xs) (h x (All-head P x xs a)) (free_flat f P h xs (All-tail P x xs a))

-- a text of which each byte is another
any_tail : (x : ℕ) (xs : List ℕ) → list_any (λ b. eqb b 10) (x ∷ xs) ≡ false → (x ≢ 10) × (list_any (λ b. eqb b 10) xs ≡ false)
any_tail x xs h = go (eqb x 10) refl h
  where
    go : (t : Bool) → eqb x 10 ≡ t → (t || list_any (λ b. eqb b 10) xs) ≡ false → (x ≢ 10) × (list_any (λ b. eqb b 10) xs ≡ false)
    go true e h = absurd cc
    go false e h = (λ z. grind (arith, nat_tests), h)

free_known : (xs : List ℕ) → list_any (λ b. eqb b 10) xs ≡ false → Free xs
free_known [] h = free_nil
free_known (x ∷ xs) h = let t = any_tail x xs h in free_cons x xs t.0 (free_known xs t.1)

free_spaced : (t : List ℕ) → Free t → Free (spaced t)
free_spaced t f = free_append t (codes " ") f (free_known (codes " ") refl)

free_signed : (p : Bool) (v : ℕ) → IsSmall v → Free (cond p (decimal v) (codes "-" ++ decimal v))
free_signed true v h = free_number v h
free_signed false v h = free_append (codes "-") (decimal v) (free_known (codes "-") refl) (free_number v h)

free_clause : (v : ℕ) (c : List Lit) → IsSmall v → IsClauseOver v c → Free (clause_line c)
free_clause v c h f = free_append (flat_map (λ l. spaced (literal_text l)) c) (codes "0")
    (free_flat (λ l. spaced (literal_text l)) (λ l. l.variable ≤ v) (λ l s. free_spaced (literal_text l) (free_signed l.positive l.variable (omega arith))) c f.1)
    (free_known (codes "0") refl)

free_step : (v : ℕ) (s : Step) → IsSmall v → IsStepOver v s → Free (step_line s)
free_step v s h f = free_append (flat_map (λ n. spaced (decimal n)) s.chain ++ codes "0 ") (clause_line s.clause)
    (free_append (flat_map (λ n. spaced (decimal n)) s.chain) (codes "0 ")
    (free_flat (λ n. spaced (decimal n)) (λ n. (0 < n) × IsSmall n) (λ n g. free_spaced (decimal n) (free_number n g.1)) s.chain f.chain)
    (free_known (codes "0 ") refl))
    (free_clause v s.clause h f.clause)

free_counts : (v n : ℕ) → IsSmall v → IsSmall n → Free (counts_line v n)
free_counts v n hv hn = free_append ((codes "p cnf " ++ decimal v) ++ codes " ") (decimal n)
    (free_append (codes "p cnf " ++ decimal v) (codes " ") (free_append (codes "p cnf ") (decimal v) (free_known (codes "p cnf ") refl) (free_number v hv)) (free_known (codes " ") refl))
    (free_number n hn)

free_log : (n : ℕ) → IsSmall n → Free (log_line n)
free_log n h = free_append (codes "log ") (decimal n) (free_known (codes "log ") refl) (free_number n h)

free_named : (name : List ℕ) (n : ℕ) (rest : List ℕ) → list_any (λ b. eqb b 10) name ≡ false → n < 2 ^ 63 → Free rest → Free (name ++ (decimal n ++ 32 ∷ rest))
free_named name n rest h small f = free_append name (decimal n ++ 32 ∷ rest) (free_known name h)
    (free_append (decimal n) (32 ∷ rest) (λ i. free_decimal n 10 (omega arith) (omega arith) i) (free_cons 32 rest (λ z. absurd (omega arith)) f))

free_head : (h : Head) → IsHead h → Free (head_line h)
free_head h f =
    let weight : Free (from_weight h) = free_append (codes "weight ") (decimal h.weight) (free_known (codes "weight ") refl) (λ i. free_decimal h.weight 10 (let small = f.weight in omega arith) (omega arith) i) in
    let conflicts : Free (from_conflicts h) = free_named (codes "conflicts ") h.conflicts (from_weight h) refl f.conflicts weight in
    let rounds : Free (from_rounds h) = free_named (codes "rounds ") h.rounds (from_conflicts h) refl f.rounds conflicts in
    let bytes : Free (from_bytes h) = free_named (codes "bytes ") h.bytes (from_rounds h) refl f.bytes rounds in
    let blocks : Free (from_blocks h) = free_named (codes "blocks ") h.blocks (from_bytes h) refl f.blocks bytes in
    subst Free (sym (head_regroup h)) (free_named (codes "turns ") h.turns (from_blocks h) refl f.turns blocks)

-- ---- names

no_digit : (b : ℕ) → is_digit b ≡ true → b ≢ 10
no_digit b h e = absurd (grind (arith, nat_tests))

free_digits : (ds : List ℕ) → All (λ b. is_digit b ≡ true) ds → Free ds
free_digits ds h i = no_digit 10 (All-contains (λ b. is_digit b ≡ true) ds 10 h i) refl

no_name_byte : (b : ℕ) → is_name_byte b ≡ true → b ≢ 10
no_name_byte b h e = let z : is_name_byte 10 ≡ true = subst (λ x. is_name_byte x ≡ true) e h in absurd cc

free_names : (bs : List ℕ) → list_all is_name_byte bs ≡ true → Free bs
free_names [] h = free_nil
free_names (b ∷ bs) h = let p = and_parts (is_name_byte b) (list_all is_name_byte bs) h in free_cons b bs (no_name_byte b p.0) (free_names bs p.1)

free_bare : (bs : List ℕ) → is_bare bs ≡ true → Free bs
free_bare [] h = free_nil
free_bare (b ∷ bs) h = free_names (b ∷ bs) (and_parts (not (is_digit b)) (list_all is_name_byte (b ∷ bs)) h).1

hex_large : (n : ℕ) → hex_digit 65 n ≢ 10
hex_large n e = absurd (grind (arith, nat_tests))

no_plain : (b : ℕ) → is_plain b ≡ true → b ≢ 10
no_plain b h e = let z : is_plain 10 ≡ true = subst (λ x. is_plain x ≡ true) e h in absurd cc

free_escaped_by : (p : Bool) (b : ℕ) → is_plain b ≡ p → Free (cond p (b ∷ []) (92 ∷ hex_byte 65 b))
free_escaped_by true b e = free_cons b [] (no_plain b e) free_nil
free_escaped_by false b e = free_cons 92 (hex_byte 65 b) (λ z. absurd (omega arith)) (free_cons (hex_digit 65 (b / 16)) (hex_digit 65 (b % 16) ∷ []) (hex_large (b / 16)) (free_cons (hex_digit 65 (b % 16)) [] (hex_large (b % 16)) free_nil))

free_quoted : (bs : List ℕ) → Free (34 ∷ (flat_map escaped bs ++ 34 ∷ []))
free_quoted bs = free_cons 34 (flat_map escaped bs ++ 34 ∷ []) (λ z. absurd (omega arith))
    (free_append (flat_map escaped bs) (34 ∷ []) (free_flat escaped (λ b. Unit {0}) (λ b u. free_escaped_by (is_plain b) b refl) bs (λ k d l. tt)) (free_cons 34 [] (λ z. absurd (omega arith)) free_nil))

free_word_by : (p : Bool) (bs : List ℕ) → is_bare bs ≡ p → Free (cond p bs (quoted bs))
free_word_by true bs e = free_bare bs e
free_word_by false bs e = free_quoted bs

free_name : (name : List ℕ) → IsPrintedName name → Free name
free_name name f = ⊎_elim
    (λ n. free_digits name n.1)
    (λ w i. free_word_by (is_bare w.0) w.0 refl (subst (λ t. Contains t 10) w.2 i))
    f

free_status : (p : Bool) → Free (status_text p)
free_status true = free_known (codes " correct") refl
free_status false = free_known (codes " incorrect") refl

free_row : (name : List ℕ) (p : Bool) → IsPrintedName name → Free (row_line name p)
free_row name p f = free_append (codes "row @" ++ name) (status_text p) (free_append (codes "row @") name (free_known (codes "row @") refl) (free_name name f)) (free_status p)

-- ---- lines

abbrev pub AreFree : Lines → Type 0
AreFree lines = All Free lines

free_part : (p : Part) → IsPart p → AreFree (part_lines p)
free_part p f =
    let v = p.cert.cnf.variables in
    let n = length p.cert.cnf.clauses in
    let k = length p.cert.log in
    let steps = All-map Free step_line p.cert.log (All-weaker (IsStepOver v) (λ s. Free (step_line s)) (λ s g. free_step v s f.variables g) p.cert.log f.steps) in
    let clauses = All-map Free clause_line p.cert.cnf.clauses (All-weaker (IsClauseOver v) (λ c. Free (clause_line c)) (λ c g. free_clause v c f.variables g) p.cert.cnf.clauses f.clauses) in
    let tail = All-append Free (map clause_line p.cert.cnf.clauses) (log_line k ∷ map step_line p.cert.log) clauses (All-cons Free (log_line k) (map step_line p.cert.log) (free_log k f.step_count) steps) in
    All-cons Free (row_line p.name p.is_correct) (counts_line v n ∷ (map clause_line p.cert.cnf.clauses ++ log_line k ∷ map step_line p.cert.log)) (free_row p.name p.is_correct f.name)
    (All-cons Free (counts_line v n) (map clause_line p.cert.cnf.clauses ++ log_line k ∷ map step_line p.cert.log) (free_counts v n f.variables f.clause_count) tail)

free_parts : (ps : List Part) → All IsPart ps → AreFree (flat_map part_lines ps)
free_parts [] f = All-nil Free
free_parts (p ∷ ps) f = All-append Free (part_lines p) (flat_map part_lines ps) (free_part p (All-head IsPart p ps f)) (free_parts ps (All-tail IsPart p ps f))

free_start : (head : Option Head) → IfSome head IsHead → AreFree (head_lines head)
free_start None f = All-cons Free (codes "tvproof 1") [] (free_known (codes "tvproof 1") refl) (All-nil Free)
free_start (Some h) f = All-cons Free (codes "tvproof 2") (head_line h ∷ []) (free_known (codes "tvproof 2") refl) (All-cons Free (head_line h) [] (free_head h f) (All-nil Free))

pub free_proof : (proof : Proof) → IsSpellable proof → AreFree (proof_lines proof)
free_proof proof f = All-append Free (head_lines proof.head) (flat_map part_lines proof.parts) (free_start proof.head f.head) (free_parts proof.parts f.parts)

pub free_file : (lines : Lines) → File lines → AreFree lines
free_file lines f = subst AreFree (sym f.2) (free_proof f.0 f.1)

first_free : (s t : Lines) → AreFree (s ++ t) → AreFree s
first_free [] t f = All-nil Free
first_free (l ∷ s) t f = All-cons Free l s (All-head Free l (s ++ t) f) (first_free s t (All-tail Free l (s ++ t) f))

line_first : (l : List ℕ) (s : Lines) (x : List ℕ) → ended (l ∷ s) ++ x ≡ l ++ 10 ∷ (ended s ++ x)
line_first l s x = simp append_assoc

-- a text that begins with whole lines is these lines and further ones
parted_lines : (lines taken : Lines) (rest : List ℕ) → AreFree lines → AreFree taken → ended lines ≡ ended taken ++ rest → (more : Lines) × (lines ≡ taken ++ more) × (rest ≡ ended more)
parted_lines lines [] rest fl ft e = (lines, refl, sym e)
parted_lines [] (t ∷ taken) rest fl ft e = absurd (free_nil (contains_it 10 [] t (ended taken ++ rest) (e ∙ line_first t taken rest)))
parted_lines (l ∷ lines) (t ∷ taken) rest fl ft e =
    let both = parted 10 l t (ended lines) (ended taken ++ rest) (All-head Free l lines fl) (All-head Free t taken ft)
    (sym (append_assoc l (10 ∷ []) (ended lines)) ∙ e ∙ line_first t taken rest) in
    let next = parted_lines lines taken rest (All-tail Free l lines fl) (All-tail Free t taken ft) both.1 in
    (next.0, ap₂ (λ (a : List ℕ) (b : Lines). a ∷ b) both.0 next.1, next.2)

-- the lines of a text are determined
pub same_lines : (lines others : Lines) → AreFree lines → AreFree others → ended lines ≡ ended others → lines ≡ others
same_lines [] [] fl fo e = refl
same_lines [] (o ∷ others) fl fo e = absurd (free_nil (contains_it 10 [] o (ended others) (e ∙ append_assoc o (10 ∷ []) (ended others))))
same_lines (l ∷ lines) [] fl fo e = absurd (free_nil (contains_it 10 [] l (ended lines) (sym e ∙ append_assoc l (10 ∷ []) (ended lines))))
same_lines (l ∷ lines) (o ∷ others) fl fo e =
    let both = parted 10 l o (ended lines) (ended others) (All-head Free l lines fl) (All-head Free o others fo)
    (sym (append_assoc l (10 ∷ []) (ended lines)) ∙ e ∙ append_assoc o (10 ∷ []) (ended others)) in
    ap₂ (λ (a : List ℕ) (b : Lines). a ∷ b) both.0 (same_lines lines others (All-tail Free l lines fl) (All-tail Free o others fo) both.1)

-- ---- the first fault

wrong_rest : (taken more : Lines) (rest : List ℕ) → AreFree more → rest ≡ ended more → IsWrong File taken rest → File (taken ++ more) → ⊥
wrong_rest taken [] rest fm e w f = ⊎_elim
    (λ h. free_nil (contains_it 10 [] h.0 h.1 (sym e ∙ h.2.is)))
    (λ h. ⊎_elim (λ n. n e) (λ n. n (subst File (append-nil taken) f)) h.1)
    w
wrong_rest taken (l ∷ more) rest fm e w f = ⊎_elim
    (λ h.
    let both = parted 10 h.0 l h.1 (ended more) h.2.free (All-head Free l more fm) (sym h.2.is ∙ e ∙ append_assoc l (10 ∷ []) (ended more)) in
    h.3 more (subst (λ (x : List ℕ). File (taken ++ x ∷ more)) (sym both.0) f))
    (λ h. h.0 (contains_it 10 rest l (ended more) (e ∙ append_assoc l (10 ∷ []) (ended more))))
    w

-- no proof has a text at which reading is stuck
pub no_proof : (text rest : List ℕ) → IsStuck File text rest → (proof : Proof) → IsProof text proof → ⊥
no_proof text rest k proof p =
    let free = free_proof proof p.fit in
    let taken_free = first_free k.taken k.begin.0 (free_file (k.taken ++ k.begin.0) k.begin.1) in
    let apart = parted_lines (proof_lines proof) k.taken rest free taken_free (sym p.is ∙ k.is) in
    let more_free = rest_free k.taken apart.0 (subst AreFree apart.1 free) in
    wrong_rest k.taken apart.0 rest more_free apart.2 k.wrong (proof, p.fit, sym apart.1)
  where
    rest_free : (s t : Lines) → AreFree (s ++ t) → AreFree t
    rest_free [] t f = f
    rest_free (l ∷ s) t f = rest_free s t (All-tail Free l (s ++ t) f)

begins : (taken : Lines) → (more : Lines) × File (taken ++ more) → Begin taken
begins taken b = (b.1.0, b.0, b.1.1, sym b.1.2)

fault_of : (taken : Lines) (rest : List ℕ) → IsWrong File taken rest → IsWrongLine taken rest ⊎ IsCutShort taken rest
fault_of taken rest w = ⊎_elim
    (λ h. inl (h.0, h.1, h.2.free, h.2.is, λ b. h.3 b.1 (b.0, b.2, sym (append_assoc taken (h.0 ∷ []) b.1) ∙ sym b.3)))
    (λ h. inr (h.0, ⊎_elim inl (λ n. inr (λ proof f e. n (proof, f, sym e))) h.1))
    w

-- ---- the number of a line

abbrev newline : ℕ → ℕ
newline b = cond (b == 10) 1 0

no_newline : (b : ℕ) → b ≢ 10 → newline b ≡ 0
no_newline b n = ap (λ t. cond t 1 0) (ne_eqb b 10 n)

none_counted : (l : List ℕ) → Free l → sum_by newline l ≡ 0
none_counted [] f = refl
none_counted (b ∷ l) f =
    let first = no_newline b (λ e. f (subst (λ z. Contains (b ∷ l) z) e (here b l))) in
    let next = none_counted l (λ i. f (Contains-append_right (b ∷ []) l 10 i)) in
    sum_by-cons newline b l ∙ ap₂ (λ (x y : ℕ). x + y) first next

count_lines : (lines : Lines) → AreFree lines → sum_by newline (ended lines) ≡ length lines
count_lines [] f = refl
count_lines (l ∷ lines) f =
    let next = count_lines lines (All-tail Free l lines f) in
    let none = none_counted l (All-head Free l lines f) in
    let one : sum_by newline (10 ∷ []) ≡ 1 = refl in
    let whole = sum_by-append newline (l ++ 10 ∷ []) (ended lines) in
    let line = sum_by-append newline l (10 ∷ []) in
    omega arith

-- where reading is stuck is the first fault
pub first_fault : (text rest : List ℕ) (left number : ℕ) → length rest ≡ left → IsStuck File text rest → number ≡ 1 + count_by (λ b. b == 10) (take (length text - left) text) → IsFirstFault text number
first_fault text rest left number l k n =
    let free = first_free k.taken k.begin.0 (free_file (k.taken ++ k.begin.0) k.begin.1) in
    let long = ap length k.is in
    let parts = length-append (ended k.taken) rest in
    let before : take (length text - left) text ≡ ended k.taken = ap (take (length text - left)) k.is ∙ take_at (ended k.taken) rest (length text - left) (omega arith) in
    let count = count_lines k.taken free in
    let same = ap (sum_by newline) before in
    let number_is : number ≡ 1 + sum_by newline (take (length text - left) text) = n in
    record {
      taken = k.taken;
      rest = rest;
      is = k.is;
      number_is = omega arith;
      begin = begins k.taken k.begin;
      fault = fault_of k.taken rest k.wrong;
    }
