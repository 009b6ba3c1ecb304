-- The first lines of the rows of a report's text.
use Rattle.tv_run.proofs.Common.{ℕ, ◌≡◌, ◌≢◌, ◌<◌, ◌/◌, ◌%◌, ◌&&◌, arith, Bool, true, false, cond, not, All, List, [], ◌∷◌, ◌++◌, codes, map, append_assoc, append-nil, refl, sym, ap, subst, ◌∙◌, true≢false, nat_lt, decimal, flat_map, list_all, filter, nat_tests, All-contains, All-head, All-tail, Name, Number, Word, Reason, Refused, escaped, hex_byte, hex_digit, is_bare, is_digit, is_name_byte, is_plain, name_text, quoted, Bounds, Budget, Cause, Weight, Rounds, Conflicts, Side, Finding, Row, count, bounds_text, budget_text, cause_text, counted, finding_text, first_line, first_word, judged_counts, last_line, newline, other_counts, reason_text, refused_text, report_text, row_text, shown_lines, side_text, IsReadRow, IsReadName, Free, same_lines, and_parts}
use Rattle.ir_tree.specs.declared.module.Reason.TheVariants as reason
use Rattle.report.specs.declared.row.Side.TheVariants as side
use Rattle.report.specs.declared.row.Finding.TheVariants as finding
use Rattle.report.specs.declared.status.Class.TheVariants as class
use Rattle.tv_run.proofs.RowLines.{HasMarked, Without, free_decimal, free_known, hex_other, is_marked, marked_append, marked_line, marked_nil, shown_marked, unmarked_line, without_append, without_cons, without_nil}

-- ---- names

pub digits_without : (c : ℕ) (ds : List ℕ) → is_digit c ≡ false → All (λ b. is_digit b ≡ true) ds → Without c ds
digits_without c ds other digits i = true≢false (sym (All-contains (λ b. is_digit b ≡ true) ds c digits i) ∙ other)

names_without : (c : ℕ) (bs : List ℕ) → is_name_byte c ≡ false → list_all is_name_byte bs ≡ true → Without c bs
names_without c [] other all = without_nil c
names_without c (b ∷ bs) other all =
    let both = and_parts (is_name_byte b) (list_all is_name_byte bs) all in
    without_cons c b bs (λ e. true≢false (sym both.0 ∙ ap is_name_byte e ∙ other)) (names_without c bs other both.1)

pub bare_without : (c : ℕ) (bs : List ℕ) → is_name_byte c ≡ false → is_bare bs ≡ true → Without c bs
bare_without c [] other bare = without_nil c
bare_without c (b ∷ bs) other bare = names_without c (b ∷ bs) other (and_parts (not (is_digit b)) (list_all is_name_byte (b ∷ bs)) bare).1

pub escaped_without : (c b : ℕ) → is_plain c ≡ false → c < 48 → c ≢ 92 → Without c (escaped b)
escaped_without c b other below slash = go (is_plain b) refl
  where
    go : (t : Bool) → is_plain b ≡ t → Without c (cond t (b ∷ []) (92 ∷ hex_byte 65 b))
    go true is = without_cons c b [] (λ e. true≢false (sym is ∙ ap is_plain e ∙ other)) (without_nil c)
    go false is =
        without_cons c 92 (hex_byte 65 b) (λ e. slash (sym e))
        (without_cons c (hex_digit 65 (b / 16)) (hex_digit 65 (b % 16) ∷ []) (hex_other c 65 (b / 16) below (omega (arith, below)))
        (without_cons c (hex_digit 65 (b % 16)) [] (hex_other c 65 (b % 16) below (omega (arith, below))) (without_nil c)))

pub all_escaped_without : (c : ℕ) (bs : List ℕ) → is_plain c ≡ false → c < 48 → c ≢ 92 → Without c (flat_map escaped bs)
all_escaped_without c [] other below slash = without_nil c
all_escaped_without c (b ∷ bs) other below slash = without_append c (escaped b) (flat_map escaped bs) (escaped_without c b other below slash) (all_escaped_without c bs other below slash)

free_quoted : (bs : List ℕ) → Free (quoted bs)
free_quoted bs =
    without_append 10 (34 ∷ [] ++ flat_map escaped bs) (34 ∷ [])
    (without_append 10 (34 ∷ []) (flat_map escaped bs) (free_known (34 ∷ []) refl) (all_escaped_without 10 bs refl (omega arith) (λ e. omega (arith, e))))
    (free_known (34 ∷ []) refl)

free_name : (n : Name) → IsReadName n → Free (name_text n)
free_name (Number ds) read = digits_without 10 ds refl read.1
free_name (Word bs) read = go (is_bare bs) refl
  where
    go : (t : Bool) → is_bare bs ≡ t → Free (cond t bs (quoted bs))
    go true is = bare_without 10 bs refl is
    go false is = free_quoted bs

-- ---- rows

-- what follows the name in the first line of a row
abbrev pub after_name : Finding → List ℕ
after_name finding.Correct = codes " correct"
after_name (finding.Incorrect point shown) = codes " incorrect"
after_name (finding.Unknown cause) = codes " unknown " ++ cause_text cause
after_name (finding.Refused side refused) = codes " refused " ++ side_text side ++ codes " " ++ refused_text refused
after_name finding.Signature = codes " signature"
after_name finding.Missing = codes " missing"
after_name finding.Extra = codes " extra"

abbrev shown_of : Finding → List ℕ
shown_of (finding.Incorrect point shown) = shown_lines point shown
shown_of _ = []

abbrev pub first_of_row : Row → List ℕ
first_of_row row = codes "@" ++ name_text row.name ++ after_name row.finding

finding_is : (found : Finding) → finding_text found ≡ (after_name found ++ newline) ++ shown_of found
finding_is finding.Correct = sym (append-nil (codes " correct" ++ newline))
finding_is (finding.Incorrect point shown) = refl
finding_is (finding.Unknown cause) = sym (append-nil (after_name (finding.Unknown cause) ++ newline))
finding_is (finding.Refused side refused) = sym (append-nil (after_name (finding.Refused side refused) ++ newline))
finding_is finding.Signature = sym (append-nil (codes " signature" ++ newline))
finding_is finding.Missing = sym (append-nil (codes " missing" ++ newline))
finding_is finding.Extra = sym (append-nil (codes " extra" ++ newline))

regroup : (a b c d : List ℕ) → a ++ (b ++ c ++ d) ≡ ((a ++ b) ++ c) ++ d
regroup a b c d = simp append_assoc

row_is : (row : Row) → row_text row ≡ (first_of_row row ++ newline) ++ shown_of row.finding
row_is row = ap (λ (t : List ℕ). codes "@" ++ name_text row.name ++ t) (finding_is row.finding) ∙ regroup (codes "@" ++ name_text row.name) (after_name row.finding) newline (shown_of row.finding)

free_cause : (cause : Cause) → Free (cause_text cause)
free_cause Weight = free_known (codes "weight") refl
free_cause Rounds = free_known (codes "rounds") refl
free_cause Conflicts = free_known (codes "conflicts") refl

free_side : (s : Side) → Free (side_text s)
free_side side.Source = free_known (codes "source") refl
free_side side.Target = free_known (codes "target") refl

-- a text of letters has no byte below them
letters : (c : ℕ) (text : List ℕ) → c < 65 → list_all (λ b. nat_lt 64 b) text ≡ true → Without c text
letters c [] below all = without_nil c
letters c (b ∷ bs) below all =
    let both = and_parts (nat_lt 64 b) (list_all (λ x. nat_lt 64 x) bs) all in
    without_cons c b bs (λ e. let above : nat_lt 64 b ≡ true = both.0 in absurd (grind (arith, nat_tests))) (letters c bs below both.1)

pub reason_without : (c : ℕ) (r : Reason) → c < 65 → Without c (reason_text r)
reason_without c reason.Syntax below = letters c (codes "Syntax") below refl
reason_without c reason.Unsupported below = letters c (codes "Unsupported") below refl
reason_without c reason.Limit below = letters c (codes "Limit") below refl
reason_without c reason.NameTwice below = letters c (codes "NameTwice") below refl
reason_without c reason.NameUnknown below = letters c (codes "NameUnknown") below refl
reason_without c reason.TypeClash below = letters c (codes "TypeClash") below refl
reason_without c reason.PhiEdges below = letters c (codes "PhiEdges") below refl
reason_without c reason.Unassigned below = letters c (codes "Unassigned") below refl
reason_without c reason.UndefUse below = letters c (codes "UndefUse") below refl

free_after : (found : Finding) → Free (after_name found)
free_after finding.Correct = free_known (codes " correct") refl
free_after (finding.Incorrect point shown) = free_known (codes " incorrect") refl
free_after (finding.Unknown cause) = without_append 10 (codes " unknown ") (cause_text cause) (free_known (codes " unknown ") refl) (free_cause cause)
free_after (finding.Refused side refused) =
    without_append 10 (codes " refused " ++ side_text side ++ codes " ") (refused_text refused)
    (without_append 10 (codes " refused " ++ side_text side) (codes " ") (without_append 10 (codes " refused ") (side_text side) (free_known (codes " refused ") refl) (free_side side)) (free_known (codes " ") refl))
    (without_append 10 (reason_text refused.reason ++ codes " " ++ decimal refused.line ++ codes ":") (decimal refused.column)
    (without_append 10 (reason_text refused.reason ++ codes " " ++ decimal refused.line) (codes ":")
    (without_append 10 (reason_text refused.reason ++ codes " ") (decimal refused.line) (without_append 10 (reason_text refused.reason) (codes " ") (reason_without 10 refused.reason (omega arith)) (free_known (codes " ") refl)) (free_decimal refused.line))
    (free_known (codes ":") refl)) (free_decimal refused.column))
free_after finding.Signature = free_known (codes " signature") refl
free_after finding.Missing = free_known (codes " missing") refl
free_after finding.Extra = free_known (codes " extra") refl

shown_of_marked : (found : Finding) → HasMarked [] (shown_of found)
shown_of_marked (finding.Incorrect point shown) = shown_marked point shown
shown_of_marked finding.Correct = marked_nil
shown_of_marked (finding.Unknown cause) = marked_nil
shown_of_marked (finding.Refused side refused) = marked_nil
shown_of_marked finding.Signature = marked_nil
shown_of_marked finding.Missing = marked_nil
shown_of_marked finding.Extra = marked_nil

row_marked : (row : Row) → IsReadRow row → HasMarked (first_of_row row ∷ []) (row_text row)
row_marked row read =
    let free : Free (first_of_row row) = without_append 10 (codes "@" ++ name_text row.name) (after_name row.finding) (without_append 10 (codes "@") (name_text row.name) (free_known (codes "@") refl) (free_name row.name read.name)) (free_after row.finding) in
    subst (HasMarked (first_of_row row ∷ [])) (sym (row_is row))
    (marked_append (first_of_row row ∷ []) [] (first_of_row row ++ newline) (shown_of row.finding) (marked_line (first_of_row row) free refl) (shown_of_marked row.finding))

rows_marked : (rows : List Row) → All IsReadRow rows → HasMarked (map first_of_row rows) (flat_map row_text rows)
rows_marked [] read = marked_nil
rows_marked (row ∷ rows) read =
    marked_append (first_of_row row ∷ []) (map first_of_row rows) (row_text row) (flat_map row_text rows) (row_marked row (All-head IsReadRow row rows read)) (rows_marked rows (All-tail IsReadRow row rows read))

-- ---- a report

free_counted : (label : List ℕ) (n : ℕ) → Free label → Free (counted label n)
free_counted label n free = without_append 10 label (decimal n) free (free_decimal n)

module _ (bounds : Bounds) (budget : Budget) where
  free_bounds : Free (bounds_text bounds)
  free_bounds =
      without_append 10 (counted (codes "tv 2 turns ") bounds.turns ++ counted (codes " blocks ") bounds.blocks) (counted (codes " bytes ") bounds.bytes)
      (without_append 10 (counted (codes "tv 2 turns ") bounds.turns) (counted (codes " blocks ") bounds.blocks) (free_counted (codes "tv 2 turns ") bounds.turns (free_known (codes "tv 2 turns ") refl)) (free_counted (codes " blocks ") bounds.blocks (free_known (codes " blocks ") refl)))
      (free_counted (codes " bytes ") bounds.bytes (free_known (codes " bytes ") refl))

  free_budget : Free (budget_text budget)
  free_budget =
      without_append 10 (counted (codes " rounds ") budget.rounds ++ counted (codes " conflicts ") budget.conflicts) (counted (codes " weight ") budget.weight)
      (without_append 10 (counted (codes " rounds ") budget.rounds) (counted (codes " conflicts ") budget.conflicts) (free_counted (codes " rounds ") budget.rounds (free_known (codes " rounds ") refl)) (free_counted (codes " conflicts ") budget.conflicts (free_known (codes " conflicts ") refl)))
      (free_counted (codes " weight ") budget.weight (free_known (codes " weight ") refl))

  free_word : (first : Bool) → Free (first_word first)
  free_word true = free_known (codes " first") refl
  free_word false = free_known [] refl

  first_marked : (first : Bool) → HasMarked [] (first_line bounds budget first)
  first_marked first =
      unmarked_line (bounds_text bounds ++ budget_text budget ++ first_word first)
      (without_append 10 (bounds_text bounds ++ budget_text budget) (first_word first) (without_append 10 (bounds_text bounds) (budget_text budget) free_bounds free_budget) (free_word first)) refl

module _ (rows : List Row) where
  free_judged : Free (judged_counts rows)
  free_judged =
      without_append 10 (counted (codes "correct ") (count class.Correct rows) ++ counted (codes " incorrect ") (count class.Incorrect rows)) (counted (codes " unknown ") (count class.Unknown rows))
      (without_append 10 (counted (codes "correct ") (count class.Correct rows)) (counted (codes " incorrect ") (count class.Incorrect rows)) (free_counted (codes "correct ") (count class.Correct rows) (free_known (codes "correct ") refl)) (free_counted (codes " incorrect ") (count class.Incorrect rows) (free_known (codes " incorrect ") refl)))
      (free_counted (codes " unknown ") (count class.Unknown rows) (free_known (codes " unknown ") refl))

  free_other : Free (other_counts rows)
  free_other =
      without_append 10 (counted (codes " refused ") (count class.Refused rows) ++ counted (codes " signature ") (count class.Signature rows) ++ counted (codes " missing ") (count class.Missing rows)) (counted (codes " extra ") (count class.Extra rows))
      (without_append 10 (counted (codes " refused ") (count class.Refused rows) ++ counted (codes " signature ") (count class.Signature rows)) (counted (codes " missing ") (count class.Missing rows))
      (without_append 10 (counted (codes " refused ") (count class.Refused rows)) (counted (codes " signature ") (count class.Signature rows)) (free_counted (codes " refused ") (count class.Refused rows) (free_known (codes " refused ") refl)) (free_counted (codes " signature ") (count class.Signature rows) (free_known (codes " signature ") refl)))
      (free_counted (codes " missing ") (count class.Missing rows) (free_known (codes " missing ") refl)))
      (free_counted (codes " extra ") (count class.Extra rows) (free_known (codes " extra ") refl))

  last_marked : HasMarked [] (last_line rows)
  last_marked = unmarked_line (judged_counts rows ++ other_counts rows) (without_append 10 (judged_counts rows) (other_counts rows) free_judged free_other) refl

report_marked : (bounds : Bounds) (budget : Budget) (first : Bool) (rows : List Row) → All IsReadRow rows → HasMarked (map first_of_row rows) (report_text bounds budget first rows)
report_marked bounds budget first rows read =
    subst (λ (marked : List (List ℕ)). HasMarked marked (report_text bounds budget first rows)) (append-nil (map first_of_row rows))
    (marked_append (map first_of_row rows) [] (first_line bounds budget first ++ flat_map row_text rows) (last_line rows)
    (marked_append [] (map first_of_row rows) (first_line bounds budget first) (flat_map row_text rows) (first_marked bounds budget first) (rows_marked rows read))
    (last_marked rows))

-- reports with one text have the same first lines of rows
pub same_firsts : (bounds other_bounds : Bounds) (budget other_budget : Budget) (first other_first : Bool) (rows others : List Row) → All IsReadRow rows → All IsReadRow others → report_text bounds budget first rows ≡ report_text other_bounds other_budget other_first others
    → map first_of_row rows ≡ map first_of_row others
same_firsts bounds other_bounds budget other_budget first other_first rows others read other_read e =
    let a = report_marked bounds budget first rows read in
    let b = report_marked other_bounds other_budget other_first others other_read in
    sym a.are ∙ ap (filter is_marked) (same_lines a.lines b.lines a.free b.free (sym a.is ∙ e ∙ b.is)) ∙ b.are
