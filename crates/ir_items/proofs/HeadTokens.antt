-- Heads and names are no brackets.
use Rattle.ir_items.proofs.Common.{◌≡◌, ◌⊎◌, ℕ, suc, ◌+◌, ◌<◌, Bool, true, false, cond, ◌&&◌, ◌||◌, List, [], ◌∷◌, length, drop, Option, Some, None, refl, sym, ap, ◌∙◌, inl, inr, arith, slice_get, IsSomeAnd, codes, position, is_some, nat_lt, list_any, position_or_len, and_parts, eqb-true, cases_eq, cases_Bool, cases_lt, lt-ltb, le-ltb, slice_get_within, Kind, Lexeme, mark_in, mark_of, marks_after, IsBalanced, passes, token_passes, is_word_of, is_word, is_head_word, is_name, is_global_kind, is_global, is_mark, is_head, is_define, is_called, is_brace, is_first_on_line, begins_item, is_plain_string, has_bad_layout, is_wrong_layout, OtherGoesOn, NoHeadBetween, name_from, name_at, Name, name_of, name_in}
use Rattle.std.specs.Str.{bytes_eq}
use Rattle.std.specs.Cmp.Lexicographic.{bytes_decides}
use Rattle.ir_lexer.specs.declared.token.Kind.TheVariants as kind
use Rattle.ir_items.proofs.Opening.{at_start, marks_next, balanced_on}

kinds : (k : Kind) (text : List ℕ) → (k ≡ kind.Mark) ⊎ (mark_in k text ≡ 0)
kinds kind.Mark text = inl refl
kinds _ text = inr refl

-- a token that is no mark leaves the brackets as they are
pub plain_balanced : (tokens : List Lexeme) (place : ℕ) (t : Lexeme) → slice_get tokens place ≡ Some t → mark_of t ≡ 0 → IsBalanced tokens place (place + 1)
plain_balanced tokens place t here plain = marks_next tokens place place 0 [] (Some []) (omega arith) (rw here (sym plain)) (at_start tokens place) refl

head_plain : (t : Lexeme) (equals : Bool) → (is_head_word t || is_name t && equals) ≡ true → mark_of t ≡ 0
head_plain t equals h =
    elim (kinds t.kind t.text) [
      | inl mark ↦ let bad : false ≡ true = (rw mark at h) in absurd (cc)
      | inr plain ↦ plain
    ]

pub head_balanced : (tokens : List Lexeme) (first : ℕ) → is_head tokens first ≡ true → IsBalanced tokens first (first + 1)
unfolding is_head
head_balanced tokens first h = go (slice_get tokens first) refl h
  where
    go : (o : Option Lexeme) → slice_get tokens first ≡ o → (passes is_head_word o || passes is_name o && token_passes tokens (is_mark 61) (first + 1)) ≡ true → IsBalanced tokens first (first + 1)
    go None here p = absurd (cc)
    go (Some t) here p = plain_balanced tokens first t here (head_plain t _ p)

-- the name of a define is no head, nor is the parenthesis after it
global_plain : (k : Kind) (text : List ℕ) → is_global_kind k ≡ true → mark_in k text ≡ 0
global_plain kind.Global text h = refl
global_plain _ text h = absurd (cc)

global_no_word : (t : Lexeme) → is_global t ≡ true → is_head_word t ≡ false
global_no_word t h = go t.kind refl h
  where
    go : (k : Kind) → t.kind ≡ k → is_global_kind k ≡ true → is_head_word t ≡ false
    go kind.Global is e = rw is refl
    go _ is e = absurd (cc)

mark_no_head : (t : Lexeme) (mark : ℕ) → mark_of t ≡ suc mark → (is_head_word t ≡ false) × (is_name t ≡ false)
mark_no_head t mark h =
    elim (kinds t.kind t.text) [
      | inl is ↦ (rw is refl, rw is refl)
      | inr plain ↦ absurd (omega (arith, h, plain))
    ]

pub mark_begins_nothing : (tokens : List Lexeme) (place mark : ℕ) → token_passes tokens (is_mark (suc mark)) place ≡ true → begins_item tokens place ≡ false
unfolding begins_item is_head
mark_begins_nothing tokens place mark h = go (slice_get tokens place) refl h
  where
    go : (o : Option Lexeme) → slice_get tokens place ≡ o → passes (is_mark (suc mark)) o ≡ true → begins_item tokens place ≡ false
    go None here p = absurd (cc)
    go (Some t) here p = let e = mark_no_head t mark (eqb-true _ _ p) in rw (here, e.0, e.1) refl

pub called_begins_nothing : (tokens : List Lexeme) (place : ℕ) → is_called tokens place ≡ true → begins_item tokens place ≡ false
unfolding begins_item is_head is_called
called_begins_nothing tokens place h = go (slice_get tokens place) refl (and_parts _ _ h)
  where
    and_false : (b : Bool) → ((b && false) && is_first_on_line tokens place) ≡ false
    and_false true = refl
    and_false false = refl

    next : (o : Option Lexeme) → passes (is_mark 40) o ≡ true → passes (is_mark 61) o ≡ false
    next None p = absurd (cc)
    next (Some t) p = rw (eqb-true _ _ p) refl

    go : (o : Option Lexeme) → slice_get tokens place ≡ o → (passes is_global o ≡ true) × (token_passes tokens (is_mark 40) (place + 1) ≡ true) → begins_item tokens place ≡ false
    go None here p = absurd (cc)
    go (Some t) here p = rw (here, global_no_word t p.0, next (slice_get tokens (place + 1)) p.1) (and_false (is_name t))

pub called_balanced : (tokens : List Lexeme) (place : ℕ) → is_called tokens place ≡ true → IsBalanced tokens place (place + 1)
unfolding is_called
called_balanced tokens place h = go (slice_get tokens place) refl (and_parts _ _ h).0
  where
    go : (o : Option Lexeme) → slice_get tokens place ≡ o → passes is_global o ≡ true → IsBalanced tokens place (place + 1)
    go None here p = absurd (cc)
    go (Some t) here p = plain_balanced tokens place t here (global_plain t.kind t.text p)

pub passes_within : (tokens : List Lexeme) (test : Lexeme → Bool) (place : ℕ) → token_passes tokens test place ≡ true → place < length tokens
passes_within tokens test place h = go (slice_get tokens place) refl h
  where
    go : (o : Option Lexeme) → slice_get tokens place ≡ o → passes test o ≡ true → place < length tokens
    go None here p = absurd (cc)
    go (Some t) here p = slice_get_within tokens place t here

pub called_opens : (tokens : List Lexeme) (place : ℕ) → is_called tokens place ≡ true → (place + 1 < length tokens) × (begins_item tokens (place + 1) ≡ false)
unfolding is_called
called_opens tokens place h = let p = and_parts _ _ h in (passes_within tokens (is_mark 40) (place + 1) p.1, mark_begins_nothing tokens (place + 1) 39 p.1)

-- ---- the data layout

word_kind : (k : Kind) (text word : List ℕ) → is_word_of k text word ≡ true → (k ≡ kind.Word) × (bytes_eq text word ≡ true)
word_kind kind.Word text word h = (refl, h)
word_kind _ text word h = absurd (cc)

pub layout_word_begins_nothing : (tokens : List Lexeme) (place : ℕ) → token_passes tokens (is_word (codes "datalayout")) place ≡ true → begins_item tokens place ≡ false
unfolding begins_item is_head
layout_word_begins_nothing tokens place h = go (slice_get tokens place) refl h
  where
    go : (o : Option Lexeme) → slice_get tokens place ≡ o → passes (is_word (codes "datalayout")) o ≡ true → begins_item tokens place ≡ false
    go None here p = absurd (cc)
    go (Some t) here p =
        let w = word_kind t.kind t.text (codes "datalayout") p in
        let text : t.text ≡ codes "datalayout" = (bytes_decides t.text (codes "datalayout")).0 w.1 in
        rw (here, w.0, text) refl

pub wrong_layout_goes_on : (tokens : List Lexeme) (first : ℕ) → is_head tokens first ≡ true → is_define tokens first ≡ false → is_wrong_layout tokens first ≡ true → OtherGoesOn tokens first (first + 3)
unfolding is_wrong_layout
wrong_layout_goes_on tokens first head other h =
    let p = and_parts _ _ h in
    let q = and_parts _ _ p.0 in
    let r = and_parts _ _ q.0 in
    let within : first + 3 < length tokens = passes_within tokens has_bad_layout (first + 3) p.1 in
    record {
      head = head;
      other = other;
      some = omega arith;
      within = omega arith;
      no_head = go (layout_word_begins_nothing tokens (first + 1) r.1) (mark_begins_nothing tokens (first + 2) 60 q.1);
      layout = λ e. omega arith;
    }
  where
    go : begins_item tokens (first + 1) ≡ false → begins_item tokens (first + 2) ≡ false → NoHeadBetween tokens first (first + 3)
    go one two m lo hi bal =
        elim (cases_eq m (first + 1)) [
          | inl is ↦ rw is one
          | inr other_place ↦ let is : m ≡ first + 2 = omega arith in rw is two
        ]

-- a token that passes a test, where no bracket does
quiet_balanced : (tokens : List Lexeme) (test : Lexeme → Bool) (place : ℕ) → ((t : Lexeme) → test t ≡ true → marks_after (Some []) (mark_of t) ≡ Some []) → token_passes tokens test place ≡ true → IsBalanced tokens place (place + 1)
quiet_balanced tokens test place quiet h = go (slice_get tokens place) refl h
  where
    go : (o : Option Lexeme) → slice_get tokens place ≡ o → passes test o ≡ true → IsBalanced tokens place (place + 1)
    go None here p = absurd (cc)
    go (Some t) here p = marks_next tokens place place (mark_of t) [] (Some []) (omega arith) (rw here refl) (at_start tokens place) (quiet t p)

word_quiet : (word : List ℕ) (t : Lexeme) → is_word word t ≡ true → marks_after (Some []) (mark_of t) ≡ Some []
word_quiet word t h = rw (word_kind t.kind t.text word h).0 refl

equals_quiet : (t : Lexeme) → is_mark 61 t ≡ true → marks_after (Some []) (mark_of t) ≡ Some []
equals_quiet t h = rw (eqb-true _ _ h) refl

string_plain : (k : Kind) (text : List ℕ) → is_plain_string k text ≡ true → mark_in k text ≡ 0
string_plain kind.String (b ∷ bs) h = refl
string_plain kind.String [] h = refl
string_plain kind.Local text h = absurd (cc)
string_plain kind.Global text h = absurd (cc)
string_plain _ text h = absurd (cc)

pub string_begins_nothing : (tokens : List Lexeme) (place : ℕ) → token_passes tokens has_bad_layout place ≡ true → begins_item tokens place ≡ false
unfolding begins_item is_head
string_begins_nothing tokens place h = go (slice_get tokens place) refl h
  where
    no_head : (t : Lexeme) (k : Kind) (text : List ℕ) → t.kind ≡ k → is_plain_string k text ≡ true → (is_head_word t ≡ false) × (is_name t ≡ false)
    no_head t kind.String text is p = (rw is refl, rw is refl)
    no_head t _ text is p = absurd (cc)

    go : (o : Option Lexeme) → slice_get tokens place ≡ o → passes has_bad_layout o ≡ true → begins_item tokens place ≡ false
    go None here p = absurd (cc)
    go (Some t) here p = let e = no_head t t.kind t.text refl (and_parts _ _ p).0 in rw (here, e.0, e.1) refl

layout_quiet : (t : Lexeme) → has_bad_layout t ≡ true → marks_after (Some []) (mark_of t) ≡ Some []
layout_quiet t h = rw (string_plain t.kind t.text (and_parts _ _ h).0) refl

-- no bracket is in a wrong layout
pub wrong_layout_balanced : (tokens : List Lexeme) (first : ℕ) → is_wrong_layout tokens first ≡ true → IsBalanced tokens first (first + 3) × IsBalanced tokens first (first + 3 + 1)
unfolding is_wrong_layout
wrong_layout_balanced tokens first h =
    let p = and_parts _ _ h in
    let q = and_parts _ _ p.0 in
    let r = and_parts _ _ q.0 in
    let one : IsBalanced tokens first (first + 1) = quiet_balanced tokens (is_word (codes "target")) first (word_quiet (codes "target")) r.0 in
    let two : IsBalanced tokens (first + 1) (first + 1 + 1) = quiet_balanced tokens (is_word (codes "datalayout")) (first + 1) (word_quiet (codes "datalayout")) r.1 in
    let three : IsBalanced tokens (first + 2) (first + 2 + 1) = quiet_balanced tokens (is_mark 61) (first + 2) equals_quiet q.1 in
    let four : IsBalanced tokens (first + 3) (first + 3 + 1) = quiet_balanced tokens has_bad_layout (first + 3) layout_quiet p.1 in
    let to_two : IsBalanced tokens first (first + 2) = balanced_on tokens first (first + 1) (first + 2) (omega arith) (omega arith) one (go (first + 1 + 1) (first + 2) (first + 1) (omega arith) two) in
    let to_three : IsBalanced tokens first (first + 3) = balanced_on tokens first (first + 2) (first + 3) (omega arith) (omega arith) to_two (go (first + 2 + 1) (first + 3) (first + 2) (omega arith) three) in
    (to_three, balanced_on tokens first (first + 3) (first + 3 + 1) (omega arith) (omega arith) to_three four)
  where
    go : (a b k : ℕ) → a ≡ b → IsBalanced tokens k a → IsBalanced tokens k b
    go a b k e h = rw (sym e) h

pub wrong_layout_within : (tokens : List Lexeme) (first : ℕ) → is_wrong_layout tokens first ≡ true → first + 3 < length tokens
unfolding is_wrong_layout
wrong_layout_within tokens first h = passes_within tokens has_bad_layout (first + 3) (and_parts _ _ h).1

-- ---- where heads are

pub define_within : (tokens : List Lexeme) (first : ℕ) → is_define tokens first ≡ true → first < length tokens
unfolding is_define
define_within tokens first h = passes_within tokens (is_word (codes "define")) first h

pub define_is_head : (tokens : List Lexeme) (first : ℕ) → is_define tokens first ≡ true → is_head tokens first ≡ true
unfolding is_define is_head
define_is_head tokens first h = go (slice_get tokens first) refl h
  where
    go : (o : Option Lexeme) → slice_get tokens first ≡ o → passes (is_word (codes "define")) o ≡ true → is_head tokens first ≡ true
    go None here p = absurd (cc)
    go (Some t) here p = rw (here, p) refl

pub head_within : (tokens : List Lexeme) (first : ℕ) → is_head tokens first ≡ true → first < length tokens
unfolding is_head
head_within tokens first h = go (slice_get tokens first) refl h
  where
    go : (o : Option Lexeme) → slice_get tokens first ≡ o → (passes is_head_word o || passes is_name o && token_passes tokens (is_mark 61) (first + 1)) ≡ true → first < length tokens
    go None here p = absurd (cc)
    go (Some t) here p = slice_get_within tokens first t here

pub begins_within : (tokens : List Lexeme) (place : ℕ) → begins_item tokens place ≡ true → place < length tokens
unfolding begins_item
begins_within tokens place h = head_within tokens place (and_parts _ _ h).0

pub begins_balanced : (tokens : List Lexeme) (place : ℕ) → begins_item tokens place ≡ true → IsBalanced tokens place (place + 1)
unfolding begins_item
begins_balanced tokens place h = head_balanced tokens place (and_parts _ _ h).0

pub brace_begins_nothing : (tokens : List Lexeme) (place : ℕ) → is_brace tokens place ≡ true → begins_item tokens place ≡ false
unfolding is_brace
brace_begins_nothing tokens place h = mark_begins_nothing tokens place 122 h

-- ---- names

-- what the bytes of a global name's token spell is the name at its index
pub called_name : (tokens : List Lexeme) (place : ℕ) (text : List ℕ) (name : Name) → is_called tokens place ≡ true → IsSomeAnd (slice_get tokens place) (λ t. text ≡ t.text) → name ≡ name_of (drop 1 text) → name_at tokens place ≡ Some name
unfolding is_called name_at
called_name tokens place text name h texts spelled = go (slice_get tokens place) (and_parts _ _ h).0 texts
  where
    named : (k : Kind) → is_global_kind k ≡ true → name_in k text ≡ Some name
    named kind.Global p = ap (λ (n : Name). Some n) (sym spelled)
    named _ p = absurd (cc)

    go : (o : Option Lexeme) → passes is_global o ≡ true → IsSomeAnd o (λ t. text ≡ t.text) → name_from o ≡ Some name
    go None p is = absurd is
    go (Some t) p is = rw (sym is) (named t.kind p)

any_position : (p : Name → Bool) (xs : List Name) → nat_lt (position_or_len p xs) (length xs) ≡ list_any p xs
any_position p [] = refl
any_position p (x ∷ xs) =
    elim (cases_Bool (p x)) [
      | inl t ↦ rw t (lt-ltb 0 (suc (length xs)) (omega arith))
      | inr other ↦ rw other (later (position_or_len p xs) (length xs) ∙ any_position p xs)
    ]
  where
    later : (a n : ℕ) → nat_lt (1 + a) (suc n) ≡ nat_lt a n
    later a n =
        elim (cases_lt a n) [
          | inl lt ↦ lt-ltb (1 + a) (suc n) (omega arith) ∙ sym (lt-ltb a n lt)
          | inr ge ↦ le-ltb (1 + a) (suc n) (omega arith) ∙ sym (le-ltb a n ge)
        ]

pub found_some : (p : Name → Bool) (xs : List Name) → is_some (position p xs) ≡ list_any p xs
found_some p xs = some_if (nat_lt (position_or_len p xs) (length xs)) ∙ any_position p xs
  where
    some_if : (b : Bool) → is_some (cond b (Some (position_or_len p xs)) None) ≡ b
    some_if true = refl
    some_if false = refl
