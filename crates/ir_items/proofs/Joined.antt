-- Items of two lists of tokens are those of the list that they are joined to.
use Rattle.ir_items.proofs.Common.{◌≡◌, ◌⊎◌, ℕ, suc, ◌+◌, ◌-◌, ◌<◌, ◌≤◌, Bool, true, false, ◌&&◌, eqb, ne_eqb, get_or, list_any, List, [], ◌∷◌, ◌++◌, length, take, drop, map, slice_range, Some, refl, sym, ap, subst, ◌∙◌, inl, inr, arith, slice_get, codes, cases_lt, and_parts, lt-ltb, append_assoc, append-nil, map-append, take-append-le, drop-append-le, length-drop, length-append, Lexeme, Name, Define, AreItems, later, Meets, marks, marks_behind, IsBalanced, has_open, IsPiece, passes, token_passes, is_word, is_mark, is_head_word, is_name, is_global, has_bad_layout, last_line, is_head, is_define, is_called, is_brace, is_first_on_line, begins_item, is_wrong_layout, name_at, name_from, NoHeadBetween, OtherGoesOn, IsOther, BeforeName, IsNamed, BeforeBody, IsDefine, IsCut, IsSomeAnd, Edges, HasEdges}
use Rattle.ir_items.proofs.Passing.{passes_past}
use Rattle.ir_items.proofs.HeadTokens.{passes_within, begins_within, define_is_head, mark_begins_nothing, layout_word_begins_nothing, string_begins_nothing}
use Rattle.ir_items.proofs.Phases.{FailsAtDepth0, wrong_and_right}
use Rattle.ir_items.proofs.Ends.{define_rises}
use Rattle.std.specs.Prelude.{zero}
use Rattle.std.proofs.lemmas.Bool.{or_right}
use Rattle.std.proofs.lemmas.Option.{slice_get-get_or}
use Rattle.std.proofs.lemmas.Slice.Eq.{bytes_eq-Decides}
use Rattle.std.specs.List.{AllByRecursion}
unfoldable use Rattle.std.specs.List.{IsDistinct}
use Rattle.ir_tree.specs.Names.{same_name}
use Rattle.ir_tree.specs.declared.name.Name.TheVariants.{Number, Word}

-- ---- lists

get_front : (xs ys : List Lexeme) (i : ℕ) → i < length xs → slice_get (xs ++ ys) i ≡ slice_get xs i
get_front [] ys i lt = absurd (omega arith)
get_front (x ∷ xs) ys zero lt = refl
get_front (x ∷ xs) ys (suc i) lt = get_front xs ys i (omega arith)

get_back : (xs ys : List Lexeme) (i : ℕ) → slice_get (xs ++ ys) (length xs + i) ≡ slice_get ys i
get_back [] ys i = let e : 0 + i ≡ i = omega arith in ap (λ (k : ℕ). slice_get ys k) e
get_back (x ∷ xs) ys i = let e : suc (length xs) + i ≡ suc (length xs + i) = omega arith in ap (slice_get (x ∷ (xs ++ ys))) e ∙ get_back xs ys i

pub range_front : (xs ys : List Lexeme) (i j : ℕ) → i ≤ j → j ≤ length xs → slice_range (xs ++ ys) i j ≡ slice_range xs i j
range_front xs ys i j ij jl = ap (take (j - i)) (drop-append-le i xs ys (omega arith)) ∙ take-append-le (j - i) (drop i xs) ys (omega (arith, length-drop i xs))

drop_back : (xs ys : List Lexeme) (i : ℕ) → drop (length xs + i) (xs ++ ys) ≡ drop i ys
drop_back [] ys i = let e : 0 + i ≡ i = omega arith in ap (λ (k : ℕ). drop k ys) e
drop_back (x ∷ xs) ys i = let e : suc (length xs) + i ≡ suc (length xs + i) = omega arith in ap (λ (k : ℕ). drop k (x ∷ (xs ++ ys))) e ∙ drop_back xs ys i

pub range_back : (xs ys : List Lexeme) (i j : ℕ) → slice_range (xs ++ ys) (length xs + i) (length xs + j) ≡ slice_range ys i j
range_back xs ys i j =
    let n : (length xs + j) - (length xs + i) ≡ j - i = omega arith in
    ap (λ (k : ℕ). take k (drop (length xs + i) (xs ++ ys))) n ∙ ap (take (j - i)) (drop_back xs ys i)

-- ---- tokens within a longer list

-- with so many tokens before them; after them is the end, or an item begins
record SitIn (tokens whole : List Lexeme) (count : ℕ) : Type 0 where
  within : count + length tokens ≤ length whole
  same : (i : ℕ) → i < length tokens → slice_get whole (count + i) ≡ slice_get tokens i
  range : (i j : ℕ) → i ≤ j → j ≤ length tokens → slice_range whole (count + i) (count + j) ≡ slice_range tokens i j
  first_line : (i : ℕ) → i < length tokens → is_first_on_line whole (count + i) ≡ is_first_on_line tokens i
  ends : (count + length tokens ≡ length whole) ⊎ (begins_item whole (count + length tokens) ≡ true)

false_unless : (b : Bool) → (b ≡ true → ⊥) → b ≡ false
false_unless true h = absurd (h refl)
false_unless false h = refl

same_bool : (a b : Bool) → (a ≡ true → b ≡ true) → (b ≡ true → a ≡ true) → a ≡ b
same_bool true b f g = sym (f refl)
same_bool false true f g = g refl
same_bool false false f g = refl

both_true : (a b : Bool) → a ≡ true → b ≡ true → (a && b) ≡ true
both_true a b p q = rw (p, q) refl

-- a test that no head passes at its first token fails after the tokens
fails_behind : (tokens whole : List Lexeme) (count : ℕ) (sit : SitIn tokens whole count) (test : Lexeme → Bool)
    → (token_passes whole test (count + length tokens) ≡ true → begins_item whole (count + length tokens) ≡ false) → token_passes whole test (count + length tokens) ≡ false
fails_behind tokens whole count sit test quiet =
    elim sit.ends [
      | inl is ↦ passes_past whole test (count + length tokens) (omega (arith, is))
      | inr begins ↦ false_unless (token_passes whole test (count + length tokens)) (λ h. wrong_and_right (quiet h) begins)
    ]

test_same : (tokens whole : List Lexeme) (count : ℕ) (sit : SitIn tokens whole count) (test : Lexeme → Bool) (i : ℕ) → i < length tokens → token_passes whole test (count + i) ≡ token_passes tokens test i
test_same tokens whole count sit test i lt = ap (passes test) (sit.same i lt)

-- also directly after the tokens
next_same : (tokens whole : List Lexeme) (count : ℕ) (sit : SitIn tokens whole count) (test : Lexeme → Bool) (i j : ℕ) → i ≤ length tokens → j ≡ count + i
    → (token_passes whole test (count + length tokens) ≡ true → begins_item whole (count + length tokens) ≡ false) → token_passes whole test j ≡ token_passes tokens test i
next_same tokens whole count sit test i j le is quiet =
    subst (λ (p : ℕ). token_passes whole test p ≡ token_passes tokens test i) (sym is)
    (elim (cases_lt i (length tokens)) [
      | inl less ↦ test_same tokens whole count sit test i less
      | inr more ↦
          let e : i ≡ length tokens = omega arith in
          rw e (fails_behind tokens whole count sit test quiet ∙ sym (passes_past tokens test (length tokens) (omega arith)))
    ])

mark_same : (tokens whole : List Lexeme) (count : ℕ) (sit : SitIn tokens whole count) (mark i j : ℕ) → i ≤ length tokens → j ≡ count + i → token_passes whole (is_mark (suc mark)) j ≡ token_passes tokens (is_mark (suc mark)) i
mark_same tokens whole count sit mark i j le is = next_same tokens whole count sit (is_mark (suc mark)) i j le is (mark_begins_nothing whole (count + length tokens) mark)

head_same : (tokens whole : List Lexeme) (count : ℕ) (sit : SitIn tokens whole count) (i : ℕ) → i < length tokens → is_head whole (count + i) ≡ is_head tokens i
unfolding is_head
head_same tokens whole count sit i lt =
    rw (test_same tokens whole count sit is_head_word i lt, test_same tokens whole count sit is_name i lt, mark_same tokens whole count sit 60 (i + 1) (count + i + 1) (omega arith) (omega arith)) refl

begins_same : (tokens whole : List Lexeme) (count : ℕ) (sit : SitIn tokens whole count) (i : ℕ) → i < length tokens → begins_item whole (count + i) ≡ begins_item tokens i
unfolding begins_item
begins_same tokens whole count sit i lt = rw (head_same tokens whole count sit i lt, sit.first_line i lt) refl

define_same : (tokens whole : List Lexeme) (count : ℕ) (sit : SitIn tokens whole count) (i : ℕ) → i < length tokens → is_define whole (count + i) ≡ is_define tokens i
unfolding is_define
define_same tokens whole count sit i lt = test_same tokens whole count sit (is_word (codes "define")) i lt

called_same : (tokens whole : List Lexeme) (count : ℕ) (sit : SitIn tokens whole count) (i : ℕ) → i < length tokens → is_called whole (count + i) ≡ is_called tokens i
unfolding is_called
called_same tokens whole count sit i lt = rw (test_same tokens whole count sit is_global i lt, mark_same tokens whole count sit 39 (i + 1) (count + i + 1) (omega arith) (omega arith)) refl

brace_same : (tokens whole : List Lexeme) (count : ℕ) (sit : SitIn tokens whole count) (i : ℕ) → i < length tokens → is_brace whole (count + i) ≡ is_brace tokens i
unfolding is_brace
brace_same tokens whole count sit i lt = test_same tokens whole count sit (is_mark 123) i lt

name_same : (tokens whole : List Lexeme) (count : ℕ) (sit : SitIn tokens whole count) (i : ℕ) → i < length tokens → name_at whole (count + i) ≡ name_at tokens i
unfolding name_at
name_same tokens whole count sit i lt = ap name_from (sit.same i lt)

marks_same : (tokens whole : List Lexeme) (count : ℕ) (sit : SitIn tokens whole count) (i j : ℕ) → i ≤ j → j ≤ length tokens → marks whole (count + i) (count + j) ≡ marks tokens i j
unfolding marks
marks_same tokens whole count sit i j ij jl = ap marks_behind (sit.range i j ij jl)

layout_same : (tokens whole : List Lexeme) (count : ℕ) (sit : SitIn tokens whole count) (i : ℕ) → i < length tokens → is_wrong_layout whole (count + i) ≡ is_wrong_layout tokens i
unfolding is_wrong_layout
layout_same tokens whole count sit i lt = same_bool (is_wrong_layout whole (count + i)) (is_wrong_layout tokens i) to from
  where
    to : is_wrong_layout whole (count + i) ≡ true → is_wrong_layout tokens i ≡ true
    to h =
        let p = and_parts _ _ h in
        let q = and_parts _ _ p.0 in
        let r = and_parts _ _ q.0 in
        let one : token_passes tokens (is_word (codes "target")) i ≡ true = sym (test_same tokens whole count sit (is_word (codes "target")) i lt) ∙ r.0 in
        let two : token_passes tokens (is_word (codes "datalayout")) (i + 1) ≡ true =
        sym (next_same tokens whole count sit (is_word (codes "datalayout")) (i + 1) (count + i + 1) (omega arith) (omega arith) (layout_word_begins_nothing whole (count + length tokens))) ∙ r.1 in
        let two_lt : i + 1 < length tokens = passes_within tokens (is_word (codes "datalayout")) (i + 1) two in
        let three : token_passes tokens (is_mark 61) (i + 2) ≡ true = sym (mark_same tokens whole count sit 60 (i + 2) (count + i + 2) (omega arith) (omega arith)) ∙ q.1 in
        let three_lt : i + 2 < length tokens = passes_within tokens (is_mark 61) (i + 2) three in
        let four : token_passes tokens has_bad_layout (i + 3) ≡ true =
        sym (next_same tokens whole count sit has_bad_layout (i + 3) (count + i + 3) (omega arith) (omega arith) (string_begins_nothing whole (count + length tokens))) ∙ p.1 in
        both_true _ _ (both_true _ _ (both_true _ _ one two) three) four

    at : (test : Lexeme → Bool) (k j : ℕ) → k < length tokens → j ≡ count + k → token_passes tokens test k ≡ true → token_passes whole test j ≡ true
    at test k j kl is h = rw is (test_same tokens whole count sit test k kl ∙ h)

    from : is_wrong_layout tokens i ≡ true → is_wrong_layout whole (count + i) ≡ true
    from h =
        let p = and_parts _ _ h in
        let q = and_parts _ _ p.0 in
        let r = and_parts _ _ q.0 in
        let lt_three : i + 3 < length tokens = passes_within tokens has_bad_layout (i + 3) p.1 in
        both_true _ _
        (both_true _ _ (both_true _ _ (at (is_word (codes "target")) i (count + i) lt refl r.0) (at (is_word (codes "datalayout")) (i + 1) (count + i + 1) (omega arith) (omega arith) r.1))
        (at (is_mark 61) (i + 2) (count + i + 2) (omega arith) (omega arith) q.1)) (at has_bad_layout (i + 3) (count + i + 3) (omega arith) (omega arith) p.1)

-- ---- what is at depth 0

fails_in : (tokens whole : List Lexeme) (count : ℕ) (sit : SitIn tokens whole count) (first low high : ℕ) (test test_in : ℕ → Bool) → ((i : ℕ) → i < length tokens → test_in (count + i) ≡ test i) → first ≤ low → high ≤ length tokens
    → FailsAtDepth0 tokens first test low high → FailsAtDepth0 whole (count + first) test_in (count + low) (count + high)
fails_in tokens whole count sit first low high test test_in same fl hl fails m lo hi balanced =
    let e : m ≡ count + (m - count) = omega arith in
    let here : IsBalanced whole (count + first) (count + (m - count)) = subst (λ (n : ℕ). IsBalanced whole (count + first) n) e balanced in
    let ours : IsBalanced tokens first (m - count) = sym (marks_same tokens whole count sit first (m - count) (omega arith) (omega arith)) ∙ here in
    subst (λ (n : ℕ). test_in n ≡ false) (sym e) (same (m - count) (omega arith) ∙ fails (m - count) (omega arith) (omega arith) ours)

no_head_in : (tokens whole : List Lexeme) (count : ℕ) (sit : SitIn tokens whole count) (first place : ℕ) → place ≤ length tokens → NoHeadBetween tokens first place → NoHeadBetween whole (count + first) (count + place)
no_head_in tokens whole count sit first place le none m lo hi balanced =
    fails_in tokens whole count sit first (first + 1) place (begins_item tokens) (begins_item whole) (begins_same tokens whole count sit) (omega arith) le (λ n a b c. none n (omega arith) b c) m (omega arith) hi balanced

balanced_in : (tokens whole : List Lexeme) (count : ℕ) (sit : SitIn tokens whole count) (i j : ℕ) → i ≤ j → j ≤ length tokens → IsBalanced tokens i j → IsBalanced whole (count + i) (count + j)
balanced_in tokens whole count sit i j ij jl balanced = marks_same tokens whole count sit i j ij jl ∙ balanced

piece_in : (tokens whole : List Lexeme) (count : ℕ) (sit : SitIn tokens whole count) (from end : ℕ) → IsPiece tokens from end → IsPiece whole (count + from) (count + end)
piece_in tokens whole count sit from end piece =
    let lo : from < end = piece.some in
    let hi : end ≤ length tokens = piece.within in
    record {
      some = omega arith;
      within = omega (arith, sit.within);
      balanced = balanced_in tokens whole count sit from end (omega arith) hi piece.balanced;
      first = λ m a b. inside m a b;
    }
  where
    inside : (m : ℕ) → count + from < m → m < count + end → has_open (marks whole (count + from) m) ≡ true
    inside m a b =
        let hi : end ≤ length tokens = piece.within in
        let e : m ≡ count + (m - count) = omega arith in
        subst (λ (n : ℕ). has_open (marks whole (count + from) n) ≡ true) (sym e)
        (ap has_open (marks_same tokens whole count sit from (m - count) (omega arith) (omega arith)) ∙ piece.first (m - count) (omega arith) (omega arith))

-- ---- items

goes_on_in : (tokens whole : List Lexeme) (count : ℕ) (sit : SitIn tokens whole count) (first place : ℕ) → OtherGoesOn tokens first place → OtherGoesOn whole (count + first) (count + place)
goes_on_in tokens whole count sit first place on =
    let some : first < place = on.some in
    let hi : place ≤ length tokens = on.within in
    record {
      head = head_same tokens whole count sit first (omega arith) ∙ on.head;
      other = define_same tokens whole count sit first (omega arith) ∙ on.other;
      some = omega arith;
      within = omega (arith, sit.within);
      no_head = no_head_in tokens whole count sit first place hi on.no_head;
      layout = λ e. omega (arith, on.layout (sym (layout_same tokens whole count sit first (omega arith)) ∙ e));
    }

other_in : (tokens whole : List Lexeme) (count : ℕ) (sit : SitIn tokens whole count) (first end : ℕ) → IsOther tokens first end → IsOther whole (count + first) (count + end)
other_in tokens whole count sit first end item =
    let some : first < end = item.goes_on.some in
    let hi : end ≤ length tokens = item.goes_on.within in
    record {
      goes_on = goes_on_in tokens whole count sit first end item.goes_on;
      layout = layout_same tokens whole count sit first (omega arith) ∙ item.layout;
      balanced = balanced_in tokens whole count sit first end (omega arith) hi item.balanced;
      ends = ends;
    }
  where
    ends : (count + end ≡ length whole) ⊎ (begins_item whole (count + end) ≡ true)
    ends =
        elim item.ends [
          | inl is ↦ subst (λ (e : ℕ). (count + e ≡ length whole) ⊎ (begins_item whole (count + e) ≡ true)) (sym is) sit.ends
          | inr begins ↦ inr (begins_same tokens whole count sit end (begins_within tokens end begins) ∙ begins)
        ]

before_name_in : (tokens whole : List Lexeme) (count : ℕ) (sit : SitIn tokens whole count) (first place : ℕ) → BeforeName tokens first place → BeforeName whole (count + first) (count + place)
before_name_in tokens whole count sit first place before =
    let some : first < place = before.some in
    let hi : place ≤ length tokens = before.within in
    record {
      word = define_same tokens whole count sit first (omega arith) ∙ before.word;
      some = omega arith;
      within = omega (arith, sit.within);
      no_head = no_head_in tokens whole count sit first place hi before.no_head;
      no_name = λ m lo at balanced.
          fails_in tokens whole count sit first (first + 1) place (is_called tokens) (is_called whole) (called_same tokens whole count sit) (omega arith) hi (λ n a b c. before.no_name n (omega arith) b c) m (omega arith) at balanced;
    }

named_in : (tokens whole : List Lexeme) (count : ℕ) (sit : SitIn tokens whole count) (first name : ℕ) → name < length tokens → IsNamed tokens first name → IsNamed whole (count + first) (count + name)
named_in tokens whole count sit first name lt named =
    let some : first < name = named.before.some in
    record {
      before = before_name_in tokens whole count sit first name named.before;
      balanced = balanced_in tokens whole count sit first name (omega arith) (omega arith) named.balanced;
      called = called_same tokens whole count sit name lt ∙ named.called;
    }

before_body_in : (tokens whole : List Lexeme) (count : ℕ) (sit : SitIn tokens whole count) (first name place : ℕ) → BeforeBody tokens first name place → BeforeBody whole (count + first) (count + name) (count + place)
before_body_in tokens whole count sit first name place before =
    let some : first < name = before.named.before.some in
    let rises : name + 1 < before.end = before.parameters.some in
    let behind : before.end ≤ place = before.behind in
    let hi : place ≤ length tokens = before.within in
    let e : count + (name + 1) ≡ count + name + 1 = omega arith in
    record {
      named = named_in tokens whole count sit first name (omega arith) before.named;
      end = count + before.end;
      parameters = subst (λ (k : ℕ). IsPiece whole k (count + before.end)) e (piece_in tokens whole count sit (name + 1) before.end before.parameters);
      behind = omega arith;
      within = omega (arith, sit.within);
      no_head = no_head_in tokens whole count sit first place hi before.no_head;
      no_brace = fails_in tokens whole count sit first before.end place (is_brace tokens) (is_brace whole) (brace_same tokens whole count sit) (omega arith) hi before.no_brace;
    }

define_in : (tokens whole : List Lexeme) (count : ℕ) (sit : SitIn tokens whole count) (first name end : ℕ) → IsDefine tokens first name end → IsDefine whole (count + first) (count + name) (count + end)
define_in tokens whole count sit first name end item =
    let rises = define_rises tokens first name end item in
    let some : first < item.body = omega (arith, rises.0, rises.1, rises.2) in
    let hi : item.body < length tokens = omega (arith, rises.3, rises.4) in
    record {
      body = count + item.body;
      has_body = record {
        before = before_body_in tokens whole count sit first name item.body item.has_body.before;
        balanced = balanced_in tokens whole count sit first item.body (omega arith) (omega arith) item.has_body.balanced;
        brace = brace_same tokens whole count sit item.body hi ∙ item.has_body.brace;
      };
      closed = piece_in tokens whole count sit item.body end item.closed;
    }

-- one more define, after so many more tokens
added_later : (count : ℕ) (old defines : List Define) (name : Name) (first end : ℕ) → 0 < end
    → (old ++ map (later count) defines) ++ record { name = name; first = count + first; last = count + end - 1 } ∷ [] ≡ old ++ map (later count) (defines ++ record { name = name; first = first; last = end - 1 } ∷ [])
added_later count old defines name first end some =
    let last : count + end - 1 ≡ count + (end - 1) = omega arith in
    let d : Define = record { name = name; first = first; last = end - 1 } in
    ap (λ (k : ℕ). (old ++ map (later count) defines) ++ record { name = name; first = count + first; last = k } ∷ []) last ∙ append_assoc old (map (later count) defines) (later count d ∷ [])
    ∙ ap (λ (ds : List Define). old ++ ds) (sym (map-append (later count) defines (d ∷ [])))

-- after some items the items of tokens that begin there
items_in : (tokens whole : List Lexeme) (count : ℕ) (sit : SitIn tokens whole count) (old : List Define) → AreItems whole count old → (end : ℕ) (defines : List Define) → AreItems tokens end defines
    → AreItems whole (count + end) (old ++ map (later count) defines)
items_in tokens whole count sit old start _ _ AreItems.nothing =
    let e : count ≡ count + 0 = omega arith in
    subst (λ (k : ℕ). AreItems whole k (old ++ [])) e (subst (λ (ds : List Define). AreItems whole count ds) (sym (append-nil old)) start)
items_in tokens whole count sit old start end defines (AreItems.other {first = first} items item) =
    AreItems.other (items_in tokens whole count sit old start first defines items) (other_in tokens whole count sit first end item)
items_in tokens whole count sit old start end _ (AreItems.define {first = first} {place = place} {name = name} {defines = defines} items item named) =
    let rises = define_rises tokens first place end item in
    subst (λ (ds : List Define). AreItems whole (count + end) ds) (added_later count old defines name first end (omega (arith, rises.0, rises.1, rises.2, rises.3)))
    (AreItems.define (items_in tokens whole count sit old start first defines items) (define_in tokens whole count sit first place end item)
    (name_same tokens whole count sit place (omega (arith, rises.0, rises.1, rises.2, rises.3, rises.4)) ∙ named))

-- ---- the two lists

first_on_line_same : (xs ys : List Lexeme) (i j : ℕ) → eqb j 0 ≡ eqb i 0 → slice_get ys j ≡ slice_get xs i → slice_get ys (j - 1) ≡ slice_get xs (i - 1) → is_first_on_line ys j ≡ is_first_on_line xs i
unfolding is_first_on_line
first_on_line_same xs ys i j zeros here before = rw (zeros, here, before) refl

behind_line : (tokens : List Lexeme) (place : ℕ) (before t : Lexeme) → slice_get tokens place ≡ Some t → slice_get tokens (place - 1) ≡ Some before → last_line before < t.place.line → is_first_on_line tokens place ≡ true
unfolding is_first_on_line
behind_line tokens place before t here prior lt = rw (here, prior) (or_right (eqb place 0) _ (lt-ltb (last_line before) t.place.line lt))

first_index : (tokens : List Lexeme) → 0 < length tokens → is_first_on_line tokens 0 ≡ true
unfolding is_first_on_line
first_index [] some = absurd (omega arith)
first_index (t ∷ ts) some = refl

-- the first token of the second list is the first on its line in both
begins_line : (front back : List Lexeme) → Meets front back → 0 < length back → is_first_on_line (front ++ back) (length front) ≡ true
begins_line front [] meets some = absurd (omega arith)
begins_line [] (t ∷ ts) meets some = first_index (t ∷ ts) some
begins_line (x ∷ xs) (t ∷ ts) meets some =
    let front : List Lexeme = x ∷ xs in
    let back : List Lexeme = t ∷ ts in
    let at_end : length xs < length front = omega arith in
    let e : length front ≡ length front + 0 = omega arith in
    let last : length front - 1 ≡ length xs = omega arith in
    let before : Lexeme = get_or front (length xs) x in
    let ours : slice_get front (length xs) ≡ Some before = slice_get-get_or front (length xs) x at_end in
    let here : slice_get (front ++ back) (length front) ≡ Some t = ap (slice_get (front ++ back)) e ∙ get_back front back 0 in
    let prior : slice_get (front ++ back) (length xs) ≡ Some before = get_front front back (length xs) at_end ∙ ours in
    behind_line (front ++ back) (length front) before t here (ap (slice_get (front ++ back)) last ∙ prior) (meets before t (ap (slice_get front) last ∙ ours) refl)

back_line : (front back : List Lexeme) → Meets front back → (i : ℕ) → i < length back → is_first_on_line (front ++ back) (length front + i) ≡ is_first_on_line back i
back_line front back meets zero lt =
    let e : length front + 0 ≡ length front = omega arith in
    ap (is_first_on_line (front ++ back)) e ∙ begins_line front back meets lt ∙ sym (first_index back lt)
back_line front back meets (suc i) lt =
    let before : length front + suc i - 1 ≡ length front + i = omega arith in
    let zeros : eqb (length front + suc i) 0 ≡ eqb (suc i) 0 = ne_eqb (length front + suc i) 0 (λ e. omega (arith, e)) ∙ sym (ne_eqb (suc i) 0 (λ e. omega (arith, e))) in
    let prior : suc i - 1 ≡ i = omega arith in
    first_on_line_same back (front ++ back) (suc i) (length front + suc i) zeros (get_back front back (suc i)) (ap (slice_get (front ++ back)) before ∙ get_back front back i ∙ ap (slice_get back) (sym prior))

back_sits : (front back : List Lexeme) → Meets front back → SitIn back (front ++ back) (length front)
back_sits front back meets = record {
  within = omega (arith, length-append front back);
  same = λ i lt. get_back front back i;
  range = λ i j ij jl. range_back front back i j;
  first_line = back_line front back meets;
  ends = inl (sym (length-append front back));
}

none_before : (n : ℕ) → 0 + n ≡ n
none_before n = omega arith

front_sits : (front back : List Lexeme) → (length front ≡ length (front ++ back)) ⊎ (begins_item (front ++ back) (length front) ≡ true) → SitIn front (front ++ back) 0
front_sits front back ends = record {
  within = omega (arith, length-append front back);
  same = λ i lt. rw (none_before i) (get_front front back i lt);
  range = λ i j ij jl. rw (none_before i, none_before j) (range_front front back i j ij jl);
  first_line = λ i lt. rw (none_before i) (first_on_line_same front (front ++ back) i i refl (get_front front back i lt) (get_front front back (i - 1) (omega arith)));
  ends = rw (none_before (length front)) ends;
}

-- items begin with a head
items_begin : (tokens : List Lexeme) (end : ℕ) (defines : List Define) → AreItems tokens end defines → 0 < end → is_head tokens 0 ≡ true
items_begin tokens _ _ AreItems.nothing some = absurd (omega arith)
items_begin tokens end defines (AreItems.other {first = first} items item) some =
    elim (cases_lt 0 first) [
      | inl less ↦ items_begin tokens first defines items less
      | inr none ↦ let e : first ≡ 0 = omega arith in subst (λ (k : ℕ). is_head tokens k ≡ true) e item.goes_on.head
    ]
items_begin tokens end _ (AreItems.define {first = first} {defines = defines} items item named) some =
    elim (cases_lt 0 first) [
      | inl less ↦ items_begin tokens first defines items less
      | inr none ↦ let e : first ≡ 0 = omega arith in subst (λ (k : ℕ). is_head tokens k ≡ true) e (define_is_head tokens first item.has_body.before.named.before.word)
    ]

head_begins : (tokens : List Lexeme) → is_head tokens 0 ≡ true → is_first_on_line tokens 0 ≡ true → begins_item tokens 0 ≡ true
unfolding begins_item
head_begins tokens head line = both_true _ _ head line

-- an item begins after the first list, if the second has a token
seam : (front back : List Lexeme) (theirs : List Define) → AreItems back (length back) theirs → Meets front back → (length front ≡ length (front ++ back)) ⊎ (begins_item (front ++ back) (length front) ≡ true)
seam front back theirs items meets =
    elim (cases_lt 0 (length back)) [
      | inr none ↦ inl (omega (arith, length-append front back))
      | inl some ↦
          let e : length front + 0 ≡ length front = omega arith in
          inr (ap (begins_item (front ++ back)) (sym e) ∙ begins_same back (front ++ back) (length front) (back_sits front back meets) 0 some ∙ head_begins back (items_begin back (length back) theirs items some) (first_index back some))
    ]

none_later : (defines : List Define) → map (later 0) defines ≡ defines
none_later [] = refl
none_later (d ∷ ds) = let e : later 0 d ≡ d = no_later d in ap (λ (x : Define). x ∷ map (later 0) ds) e ∙ ap (λ (xs : List Define). d ∷ xs) (none_later ds)
  where
    no_later : (d : Define) → later 0 d ≡ d
    no_later d =
        let f : 0 + d.first ≡ d.first = omega arith in
        let l : 0 + d.last ≡ d.last = omega arith in
        rw (f, l) refl

pub items-join : (front back : List Lexeme) (ours theirs : List Define) → AreItems front (length front) ours → AreItems back (length back) theirs → Meets front back
    → AreItems (front ++ back) (length front + length back) (ours ++ map (later (length front)) theirs)
items-join front back ours theirs front_items back_items meets =
    let e : 0 + length front ≡ length front = omega arith in
    let first : AreItems (front ++ back) (0 + length front) (map (later 0) ours) =
    items_in front (front ++ back) 0 (front_sits front back (seam front back theirs back_items meets)) [] AreItems.nothing (length front) ours front_items in
    let start : AreItems (front ++ back) (length front) ours = subst (λ (k : ℕ). AreItems (front ++ back) k ours) e (subst (λ (ds : List Define). AreItems (front ++ back) (0 + length front) ds) (none_later ours) first) in
    items_in back (front ++ back) (length front) (back_sits front back meets) ours start (length back) theirs back_items

-- ---- edges

some_length : (P : Lexeme → Type 0) (tokens : List Lexeme) → IsSomeAnd (slice_get tokens 0) P → 0 < length tokens
some_length P [] h = absurd h
some_length P (t ∷ ts) h = omega arith

pub edges-join : (front back : List Lexeme) (f b : Edges) → HasEdges front f → HasEdges back b → HasEdges (front ++ back) (record { first_line = f.first_line; last_line = b.last_line })
edges-join front back f b ours theirs =
    let some : 0 < length front = some_length _ front ours.first in
    let some_too : 0 < length back = some_length _ back theirs.first in
    let e : length (front ++ back) - 1 ≡ length front + (length back - 1) = omega (arith, length-append front back) in
    let last : slice_get (front ++ back) (length (front ++ back) - 1) ≡ slice_get back (length back - 1) = ap (slice_get (front ++ back)) e ∙ get_back front back (length back - 1) in
    record {
      first = rw (get_front front back 0 some) ours.first;
      last = rw last theirs.last;
    }

-- ---- a cut

pub items-of-cut : (tokens : List Lexeme) (end : ℕ) (defines : List Define) → IsCut tokens end defines → AreItems tokens end defines
items-of-cut tokens _ _ IsCut.nothing = AreItems.nothing
items-of-cut tokens end defines (IsCut.other {first = first} items item) = AreItems.other (items-of-cut tokens first defines items) item
items-of-cut tokens end _ (IsCut.define {first = first} {defines = defines} items item named fresh few) = AreItems.define (items-of-cut tokens first defines items) item named

bytes_same : (xs ys : List ℕ) (b : Bool) → (b ≡ true → xs ≡ ys) × (xs ≡ ys → b ≡ true) → (c : Bool) → (c ≡ true → ys ≡ xs) × (ys ≡ xs → c ≡ true) → b ≡ c
bytes_same xs ys b d c e = same_bool b c (λ h. e.1 (sym (d.0 h))) (λ h. d.1 (sym (e.0 h)))

same_name_flips : (x y : Name) → same_name x y ≡ same_name y x
same_name_flips (Number a) (Number b) = bytes_same a b _ (bytes_eq-Decides a b) _ (bytes_eq-Decides b a)
same_name_flips (Word a) (Word b) = bytes_same a b _ (bytes_eq-Decides a b) _ (bytes_eq-Decides b a)
same_name_flips (Number a) (Word b) = refl
same_name_flips (Word a) (Number b) = refl

-- distinct names with another one after them
last_other : (x name : Name) (names : List Name) → AllByRecursion (λ y. same_name x y ≡ false) (names ++ name ∷ []) → same_name x name ≡ false
last_other x name [] (e, more) = e
last_other x name (y ∷ ys) (e, more) = last_other x name ys more

front_others : (x name : Name) (names : List Name) → AllByRecursion (λ y. same_name x y ≡ false) (names ++ name ∷ []) → AllByRecursion (λ y. same_name x y ≡ false) names
front_others x name [] all = tt
front_others x name (y ∷ ys) (e, more) = (e, front_others x name ys more)

distinct_front : (names : List Name) (name : Name) → IsDistinct same_name (names ++ name ∷ []) → IsDistinct same_name names × (list_any (same_name name) names ≡ false)
unfolding IsDistinct
distinct_front [] name d = (tt, refl)
distinct_front (x ∷ xs) name (others, d) =
    let both : IsDistinct same_name xs × (list_any (same_name name) xs ≡ false) = distinct_front xs name d in
    ((front_others x name xs others, both.0), rw (same_name_flips name x, last_other x name xs others) both.1)

pub cut-of-items : (tokens : List Lexeme) (end : ℕ) (defines : List Define) → AreItems tokens end defines → IsDistinct same_name (map (λ (d : Define). d.name) defines) → length defines ≤ 4096 → IsCut tokens end defines
cut-of-items tokens _ _ AreItems.nothing distinct few = IsCut.nothing
cut-of-items tokens end defines (AreItems.other {first = first} items item) distinct few = IsCut.other (cut-of-items tokens first defines items distinct few) item
cut-of-items tokens end _ (AreItems.define {first = first} {name = name} {defines = defines} items item named) distinct few =
    let d : Define = record { name = name; first = first; last = end - 1 } in
    let names : List Name = map (λ (d : Define). d.name) defines in
    let both : IsDistinct same_name names × (list_any (same_name name) names ≡ false) =
    distinct_front names name (subst (λ (ns : List Name). IsDistinct same_name ns) (map-append (λ (d : Define). d.name) defines (d ∷ [])) distinct) in
    let fewer : length defines < 4096 = omega (arith, few, length-append defines (d ∷ [])) in
    IsCut.define (cut-of-items tokens first defines items both.0 (omega arith)) item named both.1 fewer
