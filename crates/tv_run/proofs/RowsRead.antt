-- A report's text has one list of rows, but for the points of incorrect rows and what is shown of them.
use Rattle.tv_run.proofs.Common.{ℕ, ◌≡◌, ◌≢◌, ◌<◌, ◌^◌, ◌+◌, ◌*◌, ◌/◌, ◌%◌, ◌==◌, ◌&&◌, arith, Bool, true, false, cond, not, All, Contains, List, [], ◌∷◌, ◌++◌, codes, map, append_assoc, get_or, drop, refl, sym, ap, ap₂, subst, ◌∙◌, true≢false, eqb, eq-eqb, if◌then◌else◌, decimal, AllZip, flat_map, list_all, nat_tests, All-head, All-tail, Name, Number, Word, Reason, Refused, escaped, hex_byte, hex_digit, is_bare, is_digit, is_name_byte, is_plain, name_text, quoted, Cause, Weight, Rounds, Conflicts, Side, Finding, Row, cause_text, reason_text, refused_text, side_text, HasPosition, IsReadRow, IsSameFinding, SaysTheSame, TextsHaveOneListOfRows, IsPrintedNumber, IsReadName, parted}
use Rattle.std.proofs.lemmas.Fmt.{decimal_injective}
use Rattle.std.proofs.lemmas.List.{append_cancel_left}
use Rattle.ir_tree.specs.declared.module.Reason.TheVariants as reason
use Rattle.report.specs.declared.row.Side.TheVariants as side
use Rattle.report.specs.declared.row.Finding.TheVariants as finding
use Rattle.tv_run.proofs.RowLines.{decimal_without}
use Rattle.tv_run.proofs.RowHeads.{after_name, all_escaped_without, bare_without, digits_without, first_of_row, reason_without, same_firsts}

-- ---- names

hex_same : (m n : ℕ) → hex_digit 65 m ≡ hex_digit 65 n → m ≡ n
hex_same m n e = grind (arith, nat_tests)

-- a byte by its two digits
halves : (a b : ℕ) → a / 16 ≡ b / 16 → a % 16 ≡ b % 16 → a ≡ b
halves a b high low = omega (arith, high, low)

plain_slash : (a : ℕ) → is_plain a ≡ true → a ≡ 92 → ⊥
plain_slash a is e = absurd (grind (arith, nat_tests))

-- the first byte of what is printed of bytes, and what is printed of the others
same_byte : (t u : Bool) (a b : ℕ) (x y : List ℕ) → is_plain a ≡ t → is_plain b ≡ u → cond t (a ∷ []) (92 ∷ hex_byte 65 a) ++ x ≡ cond u (b ∷ []) (92 ∷ hex_byte 65 b) ++ y → (a ≡ b) × (x ≡ y)
same_byte true true a b x y p q e = (cc e, cc e)
same_byte true false a b x y p q e = absurd (plain_slash a p (cc e))
same_byte false true a b x y p q e = absurd (plain_slash b q (let s : b ≡ 92 = cc e in s))
same_byte false false a b x y p q e =
    let high : hex_digit 65 (a / 16) ≡ hex_digit 65 (b / 16) = cc e in
    let low : hex_digit 65 (a % 16) ≡ hex_digit 65 (b % 16) = cc e in
    (halves a b (hex_same (a / 16) (b / 16) high) (hex_same (a % 16) (b % 16) low), cc e)

some_byte : (t : Bool) (b : ℕ) (x : List ℕ) → [] ≡ cond t (b ∷ []) (92 ∷ hex_byte 65 b) ++ x → ⊥
some_byte true b x e = absurd (cc e)
some_byte false b x e = absurd (cc e)

same_bytes : (xs ys : List ℕ) → flat_map escaped xs ≡ flat_map escaped ys → xs ≡ ys
same_bytes [] [] e = refl
same_bytes [] (y ∷ ys) e = absurd (some_byte (is_plain y) y (flat_map escaped ys) e)
same_bytes (x ∷ xs) [] e = absurd (some_byte (is_plain x) x (flat_map escaped xs) (sym e))
same_bytes (x ∷ xs) (y ∷ ys) e =
    let both = same_byte (is_plain x) (is_plain y) x y (flat_map escaped xs) (flat_map escaped ys) refl refl e in
    ap₂ (λ (z : ℕ) (zs : List ℕ). z ∷ zs) both.0 (same_bytes xs ys both.1)

-- a number and a word that are printed before a space are not the same
number_word : (t : Bool) (ds bs x y : List ℕ) → is_bare bs ≡ t → IsPrintedNumber ds → ds ++ 32 ∷ x ≡ cond t bs (quoted bs) ++ 32 ∷ y → ⊥
number_word t [] bs x y is number e = absurd (omega (arith, number.0))
number_word true (d ∷ ds) [] x y is number e = absurd (cc is)
number_word true (d ∷ ds) (b ∷ bs) x y is number e =
    let digit : is_digit d ≡ true = All-head (λ c. is_digit c ≡ true) d ds number.1 in
    let same : d ≡ b = cc e in
    let other : is_digit b ≡ true = subst (λ c. is_digit c ≡ true) same digit in
    no_digit (is_digit b) (list_all is_name_byte (b ∷ bs)) other is
  where
    no_digit : (p q : Bool) → p ≡ true → (not p && q) ≡ true → ⊥
    no_digit true q e h = absurd (cc h)
    no_digit false q e h = absurd (cc e)
number_word false (d ∷ ds) bs x y is number e =
    let digit : is_digit d ≡ true = All-head (λ c. is_digit c ≡ true) d ds number.1 in
    let same : d ≡ 34 = cc e in
    absurd (let quote : is_digit 34 ≡ true = subst (λ c. is_digit c ≡ true) same digit in cc quote)

-- a bare word and one in quotes
bare_quoted : (vs ws x y : List ℕ) → is_bare vs ≡ true → vs ++ 32 ∷ x ≡ quoted ws ++ 32 ∷ y → ⊥
bare_quoted [] ws x y is e = absurd (cc is)
bare_quoted (v ∷ vs) ws x y is e = let same : v ≡ 34 = cc e in absurd (let no : is_bare (34 ∷ vs) ≡ true = subst (λ c. is_bare (c ∷ vs) ≡ true) same is in cc no)

module _ (a b x y : List ℕ) where
  same_quoted : (Contains a 34 → ⊥) → (Contains b 34 → ⊥) → (34 ∷ [] ++ a ++ 34 ∷ []) ++ 32 ∷ x ≡ (34 ∷ [] ++ b ++ 34 ∷ []) ++ 32 ∷ y → (a ≡ b) × (x ≡ y)
  same_quoted free other e =
      let tails : (a ++ 34 ∷ []) ++ 32 ∷ x ≡ (b ++ 34 ∷ []) ++ 32 ∷ y = cc e in
      let both = parted 34 a b (32 ∷ x) (32 ∷ y) free other (sym (append_assoc a (34 ∷ []) (32 ∷ x)) ∙ tails ∙ append_assoc b (34 ∷ []) (32 ∷ y)) in
      let rests : x ≡ y = cc (both.1) in
      (both.0, rests)

quote_apart : (bs : List ℕ) → Contains (flat_map escaped bs) 34 → ⊥
quote_apart bs = all_escaped_without 34 bs refl (omega arith) (λ h. omega (arith, h))

same_word : (t u : Bool) (vs ws x y : List ℕ) → is_bare vs ≡ t → is_bare ws ≡ u → cond t vs (quoted vs) ++ 32 ∷ x ≡ cond u ws (quoted ws) ++ 32 ∷ y → (vs ≡ ws) × (x ≡ y)
same_word true true vs ws x y p q e = parted 32 vs ws x y (bare_without 32 vs refl p) (bare_without 32 ws refl q) e
same_word true false vs ws x y p q e = absurd (bare_quoted vs ws x y p e)
same_word false true vs ws x y p q e = absurd (bare_quoted ws vs y x q (sym e))
same_word false false vs ws x y p q e =
    let both = same_quoted (flat_map escaped vs) (flat_map escaped ws) x y (quote_apart vs) (quote_apart ws) e in
    (same_bytes vs ws both.0, both.1)

-- names before a space
same_name : (n m : Name) (x y : List ℕ) → IsReadName n → IsReadName m → name_text n ++ 32 ∷ x ≡ name_text m ++ 32 ∷ y → (n ≡ m) × (x ≡ y)
same_name (Number a) (Number b) x y f g e = let both = parted 32 a b x y (digits_without 32 a refl f.1) (digits_without 32 b refl g.1) e in (ap Number both.0, both.1)
same_name (Number a) (Word w) x y f g e = absurd (number_word (is_bare w) a w x y refl f e)
same_name (Word v) (Number b) x y f g e = absurd (number_word (is_bare v) b v y x refl g (sym e))
same_name (Word v) (Word w) x y f g e = let both = same_word (is_bare v) (is_bare w) v w x y refl refl e in (ap Word both.0, both.1)

-- ---- findings

-- the cause that begins with this letter
cause_in : List ℕ → Cause
cause_in text = if get_or text 0 0 == 119 then Weight else (if get_or text 0 0 == 114 then Rounds else Conflicts)

cause_is : (c : Cause) → cause_in (cause_text c) ≡ c
unfolding cause_in
cause_is Weight = refl
cause_is Rounds = refl
cause_is Conflicts = refl

same_cause : (a b : Cause) → cause_text a ≡ cause_text b → a ≡ b
same_cause a b e = sym (cause_is a) ∙ ap cause_in e ∙ cause_is b

-- the reason that begins with these letters
reason_in : List ℕ → Reason
reason_in text =
    (if get_or text 0 0 == 83 then reason.Syntax
    else (if get_or text 0 0 == 76 then reason.Limit
    else (if get_or text 0 0 == 84 then reason.TypeClash
    else (if get_or text 0 0 == 80 then reason.PhiEdges
    else (if get_or text 0 0 == 85 then (if get_or text 2 0 == 115 then reason.Unsupported else (if get_or text 2 0 == 100 then reason.UndefUse else reason.Unassigned))
    else (if get_or text 4 0 == 84 then reason.NameTwice else reason.NameUnknown))))))

reason_is : (r : Reason) → reason_in (reason_text r) ≡ r
unfolding reason_in
reason_is reason.Syntax = refl
reason_is reason.Unsupported = refl
reason_is reason.Limit = refl
reason_is reason.NameTwice = refl
reason_is reason.NameUnknown = refl
reason_is reason.TypeClash = refl
reason_is reason.PhiEdges = refl
reason_is reason.Unassigned = refl
reason_is reason.UndefUse = refl

same_reason : (a b : Reason) → reason_text a ≡ reason_text b → a ≡ b
same_reason a b e = sym (reason_is a) ∙ ap reason_in e ∙ reason_is b

position_first : (r : Refused) → refused_text r ≡ reason_text r.reason ++ 32 ∷ (decimal r.line ++ 58 ∷ decimal r.column)
position_first r = simp append_assoc

same_position : (a b : Refused) → (a.line < 2 ^ 64) × (a.column < 2 ^ 64) → (b.line < 2 ^ 64) × (b.column < 2 ^ 64) → refused_text a ≡ refused_text b → a ≡ b
same_position a b small other e =
    let reasons = parted 32 (reason_text a.reason) (reason_text b.reason) (decimal a.line ++ 58 ∷ decimal a.column) (decimal b.line ++ 58 ∷ decimal b.column) (reason_without 32 a.reason (omega arith)) (reason_without 32 b.reason (omega arith)) (sym (position_first a) ∙ e ∙ position_first b) in
    let numbers = parted 58 (decimal a.line) (decimal b.line) (decimal a.column) (decimal b.column) (decimal_without 58 a.line refl) (decimal_without 58 b.line refl) reasons.1 in
    let same : a.reason ≡ b.reason = same_reason a.reason b.reason reasons.0 in
    let line : a.line ≡ b.line = decimal_injective a.line b.line small.0 other.0 numbers.0 in
    let column : a.column ≡ b.column = decimal_injective a.column b.column small.1 other.1 numbers.1 in
    joined a b same line column
  where
    make : Reason → ℕ → ℕ → Refused
    make r l c = record { reason = r; line = l; column = c }

    joined : (x y : Refused) → x.reason ≡ y.reason → x.line ≡ y.line → x.column ≡ y.column → x ≡ y
    joined x y p q r = ap (λ z. make z x.line x.column) p ∙ ap₂ (make y.reason) q r

abbrev before_reason : Side → List ℕ
before_reason s = codes " refused " ++ side_text s ++ codes " "

sides_apart : (x y : List ℕ) → before_reason side.Source ++ x ≡ before_reason side.Target ++ y → ⊥
sides_apart x y e = let letters : ◌≡◌ {A = ℕ} 115 116 = ap (λ t. get_or t 9 0) e in omega (arith, letters)

same_refused : (s t : Side) (a b : Refused) → (a.line < 2 ^ 64) × (a.column < 2 ^ 64) → (b.line < 2 ^ 64) × (b.column < 2 ^ 64) → before_reason s ++ refused_text a ≡ before_reason t ++ refused_text b → finding.Refused s a ≡ finding.Refused t b
same_refused side.Source side.Source a b small other e = ap (finding.Refused side.Source) (same_position a b small other (append_cancel_left (before_reason side.Source) (refused_text a) (refused_text b) e))
same_refused side.Target side.Target a b small other e = ap (finding.Refused side.Target) (same_position a b small other (append_cancel_left (before_reason side.Target) (refused_text a) (refused_text b) e))
same_refused side.Source side.Target a b small other e = absurd (sides_apart (refused_text a) (refused_text b) e)
same_refused side.Target side.Source a b small other e = absurd (sides_apart (refused_text b) (refused_text a) (sym e))

-- the letter that a finding begins with
abbrev letter : Finding → ℕ
letter finding.Correct = 99
letter (finding.Incorrect p shown) = 105
letter (finding.Unknown cause) = 117
letter (finding.Refused side refused) = 114
letter finding.Signature = 115
letter finding.Missing = 109
letter finding.Extra = 101

letter_is : (f : Finding) → get_or (after_name f) 1 0 ≡ letter f
letter_is finding.Correct = refl
letter_is (finding.Incorrect p shown) = refl
letter_is (finding.Unknown cause) = refl
letter_is (finding.Refused side refused) = refl
letter_is finding.Signature = refl
letter_is finding.Missing = refl
letter_is finding.Extra = refl

differ : (f g : Finding) → eqb (letter f) (letter g) ≡ false → after_name f ≡ after_name g → ⊥
differ f g other e =
    let same : letter f ≡ letter g = sym (letter_is f) ∙ ap (λ t. get_or t 1 0) e ∙ letter_is g in
    true≢false (sym (eq-eqb (letter f) (letter g) same) ∙ other)

same_finding : (f g : Finding) → HasPosition f → HasPosition g → after_name f ≡ after_name g → IsSameFinding f g
same_finding finding.Correct finding.Correct small other_small e = refl
same_finding finding.Correct (finding.Incorrect q other_shown) small other_small e = absurd (differ finding.Correct (finding.Incorrect q other_shown) refl e)
same_finding finding.Correct (finding.Unknown other_cause) small other_small e = absurd (differ finding.Correct (finding.Unknown other_cause) refl e)
same_finding finding.Correct (finding.Refused other_side other) small other_small e = absurd (differ finding.Correct (finding.Refused other_side other) refl e)
same_finding finding.Correct finding.Signature small other_small e = absurd (differ finding.Correct finding.Signature refl e)
same_finding finding.Correct finding.Missing small other_small e = absurd (differ finding.Correct finding.Missing refl e)
same_finding finding.Correct finding.Extra small other_small e = absurd (differ finding.Correct finding.Extra refl e)
same_finding (finding.Incorrect p shown) finding.Correct small other_small e = absurd (differ (finding.Incorrect p shown) finding.Correct refl e)
same_finding (finding.Incorrect p shown) (finding.Incorrect q other_shown) small other_small e = tt
same_finding (finding.Incorrect p shown) (finding.Unknown other_cause) small other_small e = absurd (differ (finding.Incorrect p shown) (finding.Unknown other_cause) refl e)
same_finding (finding.Incorrect p shown) (finding.Refused other_side other) small other_small e = absurd (differ (finding.Incorrect p shown) (finding.Refused other_side other) refl e)
same_finding (finding.Incorrect p shown) finding.Signature small other_small e = absurd (differ (finding.Incorrect p shown) finding.Signature refl e)
same_finding (finding.Incorrect p shown) finding.Missing small other_small e = absurd (differ (finding.Incorrect p shown) finding.Missing refl e)
same_finding (finding.Incorrect p shown) finding.Extra small other_small e = absurd (differ (finding.Incorrect p shown) finding.Extra refl e)
same_finding (finding.Unknown cause) finding.Correct small other_small e = absurd (differ (finding.Unknown cause) finding.Correct refl e)
same_finding (finding.Unknown cause) (finding.Incorrect q other_shown) small other_small e = absurd (differ (finding.Unknown cause) (finding.Incorrect q other_shown) refl e)
same_finding (finding.Unknown cause) (finding.Unknown other_cause) small other_small e = ap finding.Unknown (same_cause cause other_cause (append_cancel_left (codes " unknown ") (cause_text cause) (cause_text other_cause) e))
same_finding (finding.Unknown cause) (finding.Refused other_side other) small other_small e = absurd (differ (finding.Unknown cause) (finding.Refused other_side other) refl e)
same_finding (finding.Unknown cause) finding.Signature small other_small e = absurd (differ (finding.Unknown cause) finding.Signature refl e)
same_finding (finding.Unknown cause) finding.Missing small other_small e = absurd (differ (finding.Unknown cause) finding.Missing refl e)
same_finding (finding.Unknown cause) finding.Extra small other_small e = absurd (differ (finding.Unknown cause) finding.Extra refl e)
same_finding (finding.Refused side refused) finding.Correct small other_small e = absurd (differ (finding.Refused side refused) finding.Correct refl e)
same_finding (finding.Refused side refused) (finding.Incorrect q other_shown) small other_small e = absurd (differ (finding.Refused side refused) (finding.Incorrect q other_shown) refl e)
same_finding (finding.Refused side refused) (finding.Unknown other_cause) small other_small e = absurd (differ (finding.Refused side refused) (finding.Unknown other_cause) refl e)
same_finding (finding.Refused side refused) (finding.Refused other_side other) small other_small e = same_refused side other_side refused other small other_small e
same_finding (finding.Refused side refused) finding.Signature small other_small e = absurd (differ (finding.Refused side refused) finding.Signature refl e)
same_finding (finding.Refused side refused) finding.Missing small other_small e = absurd (differ (finding.Refused side refused) finding.Missing refl e)
same_finding (finding.Refused side refused) finding.Extra small other_small e = absurd (differ (finding.Refused side refused) finding.Extra refl e)
same_finding finding.Signature finding.Correct small other_small e = absurd (differ finding.Signature finding.Correct refl e)
same_finding finding.Signature (finding.Incorrect q other_shown) small other_small e = absurd (differ finding.Signature (finding.Incorrect q other_shown) refl e)
same_finding finding.Signature (finding.Unknown other_cause) small other_small e = absurd (differ finding.Signature (finding.Unknown other_cause) refl e)
same_finding finding.Signature (finding.Refused other_side other) small other_small e = absurd (differ finding.Signature (finding.Refused other_side other) refl e)
same_finding finding.Signature finding.Signature small other_small e = refl
same_finding finding.Signature finding.Missing small other_small e = absurd (differ finding.Signature finding.Missing refl e)
same_finding finding.Signature finding.Extra small other_small e = absurd (differ finding.Signature finding.Extra refl e)
same_finding finding.Missing finding.Correct small other_small e = absurd (differ finding.Missing finding.Correct refl e)
same_finding finding.Missing (finding.Incorrect q other_shown) small other_small e = absurd (differ finding.Missing (finding.Incorrect q other_shown) refl e)
same_finding finding.Missing (finding.Unknown other_cause) small other_small e = absurd (differ finding.Missing (finding.Unknown other_cause) refl e)
same_finding finding.Missing (finding.Refused other_side other) small other_small e = absurd (differ finding.Missing (finding.Refused other_side other) refl e)
same_finding finding.Missing finding.Signature small other_small e = absurd (differ finding.Missing finding.Signature refl e)
same_finding finding.Missing finding.Missing small other_small e = refl
same_finding finding.Missing finding.Extra small other_small e = absurd (differ finding.Missing finding.Extra refl e)
same_finding finding.Extra finding.Correct small other_small e = absurd (differ finding.Extra finding.Correct refl e)
same_finding finding.Extra (finding.Incorrect q other_shown) small other_small e = absurd (differ finding.Extra (finding.Incorrect q other_shown) refl e)
same_finding finding.Extra (finding.Unknown other_cause) small other_small e = absurd (differ finding.Extra (finding.Unknown other_cause) refl e)
same_finding finding.Extra (finding.Refused other_side other) small other_small e = absurd (differ finding.Extra (finding.Refused other_side other) refl e)
same_finding finding.Extra finding.Signature small other_small e = absurd (differ finding.Extra finding.Signature refl e)
same_finding finding.Extra finding.Missing small other_small e = absurd (differ finding.Extra finding.Missing refl e)
same_finding finding.Extra finding.Extra small other_small e = refl

-- ---- rows

after_space : (f : Finding) → after_name f ≡ 32 ∷ drop 1 (after_name f)
after_space finding.Correct = refl
after_space (finding.Incorrect p shown) = refl
after_space (finding.Unknown cause) = refl
after_space (finding.Refused side refused) = refl
after_space finding.Signature = refl
after_space finding.Missing = refl
after_space finding.Extra = refl

same_row : (row other : Row) → IsReadRow row → IsReadRow other → first_of_row row ≡ first_of_row other → SaysTheSame row other
same_row row other read other_read e =
    let x = after_name row.finding in
    let y = after_name other.finding in
    let tails : name_text row.name ++ x ≡ name_text other.name ++ y = ap (drop 1) e in
    let spaced : name_text row.name ++ 32 ∷ drop 1 x ≡ name_text other.name ++ 32 ∷ drop 1 y =
    ap (λ (t : List ℕ). name_text row.name ++ t) (sym (after_space row.finding)) ∙ tails ∙ ap (λ (t : List ℕ). name_text other.name ++ t) (after_space other.finding) in
    let both = same_name row.name other.name (drop 1 x) (drop 1 y) read.name other_read.name spaced in
    record {
      name = both.0;
      finding = same_finding row.finding other.finding read.position other_read.position (after_space row.finding ∙ ap (λ (t : List ℕ). 32 ∷ t) both.1 ∙ sym (after_space other.finding));
    }

same_rows : (rows others : List Row) → All IsReadRow rows → All IsReadRow others → map first_of_row rows ≡ map first_of_row others → AllZip SaysTheSame rows others
same_rows [] [] read other_read e = tt
same_rows [] (o ∷ others) read other_read e = absurd (cc e)
same_rows (r ∷ rows) [] read other_read e = absurd (cc e)
same_rows (r ∷ rows) (o ∷ others) read other_read e =
    let first : first_of_row r ≡ first_of_row o = cc e in
    let rest : map first_of_row rows ≡ map first_of_row others = cc e in
    (same_row r o (All-head IsReadRow r rows read) (All-head IsReadRow o others other_read) first, same_rows rows others (All-tail IsReadRow r rows read) (All-tail IsReadRow o others other_read) rest)

pub texts_have_one_list_of_rows : TextsHaveOneListOfRows
texts_have_one_list_of_rows bounds other_bounds budget other_budget first other_first rows others read other_read e =
    same_rows rows others read other_read (same_firsts bounds other_bounds budget other_budget first other_first rows others read other_read e)
