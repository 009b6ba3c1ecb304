-- The classes of tokens that a first byte leaves.
use Rattle.ir_lexer.proofs.Common.{◌≡◌, ℕ, suc, ◌+◌, ◌-◌, ◌<◌, ◌≤◌, true, false, eqb, List, [], ◌∷◌, length, get_or, Option, Some, None, refl, sym, ap, ◌∙◌, inl, inr, arith, cases_Bool, lt-ltb, length-drop, is_digit, begins_word, is_name_byte, begins_name, is_mark_byte, behind, after_byte, shorter, name_run, is_lone_mark, begins_plain_word, begins_number, word_or_label, number_token, after_digits, after_number, after_word, after_quoted, after_plain_name, after_name, after_named, after_tagged, after_caret, after_plain_label, after_quoted_label, after_label, after_float, after_hexadecimal, after_string, after_dots, after_mark, longer, front_token}
use Rattle.std.proofs.lemmas.Bool.Decides.{nat_tests}
use Rattle.ir_lexer.specs.declared.token.Kind.TheVariants as kind
use Rattle.ir_lexer.proofs.Behind.{run-cons, drop-run, run-le}

-- ---- names

plain_byte : (b : ℕ) → begins_name b ≡ true → (is_digit b ≡ false) × (eqb b 34 ≡ false)
plain_byte b h = grind (arith, nat_tests)

digit_byte : (b : ℕ) → is_digit b ≡ true → (begins_name b ≡ false) × (eqb b 34 ≡ false)
digit_byte b h = grind (arith, nat_tests)

pub name-plain : (text : List ℕ) → begins_name (get_or text 0 0) ≡ true → after_name text ≡ after_plain_name text
unfolding after_name after_digits after_plain_name after_quoted
name-plain [] h = refl
name-plain (b ∷ bs) h = let o = plain_byte b h in rw (h, o.0, o.1) refl

pub name-digits : (text : List ℕ) → is_digit (get_or text 0 0) ≡ true → after_name text ≡ after_digits text
unfolding after_name after_digits after_plain_name after_quoted
name-digits [] h = refl
name-digits (b ∷ bs) h = let o = digit_byte b h in rw (h, o.0, o.1) refl

pub name-other : (text : List ℕ) → begins_name (get_or text 0 0) ≡ false → is_digit (get_or text 0 0) ≡ false → after_name text ≡ after_quoted text
unfolding after_name after_digits after_plain_name after_quoted
name-other [] h h' = refl
name-other (b ∷ bs) h h' = rw (h, h') refl

pub name-nil : (text : List ℕ) → length text < 1 → after_name text ≡ None
unfolding after_name after_digits after_plain_name after_quoted
name-nil [] h = refl
name-nil (b ∷ bs) h = absurd (omega (arith, h))

-- ---- tokens

front-nil : front_token [] ≡ None
unfolding front_token after_mark after_dots after_word after_number after_digits after_named after_tagged after_caret after_label after_plain_label after_quoted_label after_quoted after_float after_hexadecimal after_string longer
front-nil = refl

pub none-first : (text : List ℕ) → length text < 1 → front_token text ≡ None
none-first [] h = front-nil
none-first (b ∷ bs) h = absurd (omega (arith, h))

pub local-first : (text : List ℕ) → get_or text 0 0 ≡ 37 → front_token text ≡ longer (length text) None kind.Local (after_named 37 text)
unfolding front_token after_mark after_dots after_word after_number after_digits after_named after_tagged after_caret after_label after_plain_label after_quoted_label after_quoted after_float after_hexadecimal after_string longer
local-first [] h = absurd (omega (arith, h))
local-first (b ∷ bs) h = let is : b ≡ 37 = h in rw is refl

-- a byte that begins no token by a sign, a quote or a point
record NoSign (b : ℕ) : Type 0 where
  point : eqb b 46 ≡ false
  percent : eqb b 37 ≡ false
  at : eqb b 64 ≡ false
  dollar : eqb b 36 ≡ false
  bang : eqb b 33 ≡ false
  hash : eqb b 35 ≡ false
  caret : eqb b 94 ≡ false
  quote : eqb b 34 ≡ false
  c : eqb b 99 ≡ false

-- a byte that begins no number either
record NoNumber (b : ℕ) : Type 0 where
  minus : eqb b 45 ≡ false
  plus : eqb b 43 ≡ false
  nought : eqb b 48 ≡ false
  digit : is_digit b ≡ false

mark_no_sign : (b : ℕ) → is_lone_mark b ≡ true → NoSign b
mark_no_sign b h = record { point = grind (arith, nat_tests); percent = grind (arith, nat_tests); at = grind (arith, nat_tests); dollar = grind (arith, nat_tests); bang = grind (arith, nat_tests); hash = grind (arith, nat_tests); caret = grind (arith, nat_tests); quote = grind (arith, nat_tests); c = grind (arith, nat_tests) }

mark_no_number : (b : ℕ) → is_lone_mark b ≡ true → NoNumber b
mark_no_number b h = record { minus = grind (arith, nat_tests); plus = grind (arith, nat_tests); nought = grind (arith, nat_tests); digit = grind (arith, nat_tests) }

mark_is : (b : ℕ) → is_lone_mark b ≡ true → (is_mark_byte b ≡ true) × (begins_word b ≡ false)
mark_is b h = (grind (arith, nat_tests), grind (arith, nat_tests))

word_no_sign : (b : ℕ) → begins_plain_word b ≡ true → NoSign b
word_no_sign b h = record { point = grind (arith, nat_tests); percent = grind (arith, nat_tests); at = grind (arith, nat_tests); dollar = grind (arith, nat_tests); bang = grind (arith, nat_tests); hash = grind (arith, nat_tests); caret = grind (arith, nat_tests); quote = grind (arith, nat_tests); c = grind (arith, nat_tests) }

word_no_number : (b : ℕ) → begins_plain_word b ≡ true → NoNumber b
word_no_number b h = record { minus = grind (arith, nat_tests); plus = grind (arith, nat_tests); nought = grind (arith, nat_tests); digit = grind (arith, nat_tests) }

word_is : (b : ℕ) → begins_plain_word b ≡ true → (is_mark_byte b ≡ false) × (begins_word b ≡ true)
word_is b h = (grind (arith, nat_tests), grind (arith, nat_tests))

number_no_sign : (b : ℕ) → begins_number b ≡ true → NoSign b
number_no_sign b h = record { point = grind (arith, nat_tests); percent = grind (arith, nat_tests); at = grind (arith, nat_tests); dollar = grind (arith, nat_tests); bang = grind (arith, nat_tests); hash = grind (arith, nat_tests); caret = grind (arith, nat_tests); quote = grind (arith, nat_tests); c = grind (arith, nat_tests) }

number_is : (b : ℕ) → begins_number b ≡ true → (is_mark_byte b ≡ false) × (begins_word b ≡ false)
number_is b h = (grind (arith, nat_tests), grind (arith, nat_tests))

one_byte : (n : ℕ) → suc n - n ≡ 1
one_byte n = omega arith

front-mark : (b : ℕ) (bs : List ℕ) → is_lone_mark b ≡ true → front_token (b ∷ bs) ≡ Some (kind.Mark, 1)
unfolding front_token after_mark after_dots after_word after_number after_digits after_named after_tagged after_caret after_label after_plain_label after_quoted_label after_quoted after_float after_hexadecimal after_string longer
front-mark b bs h =
    let s = mark_no_sign b h in
    let n = mark_no_number b h in
    let m = mark_is b h in
    rw (s.c, n.minus, n.plus, m.0, m.1, s.point, s.percent, s.at, s.dollar, s.bang, s.hash, s.caret, s.quote, n.nought, n.digit, one_byte (length bs)) refl

or_none : (o : Option (List ℕ)) → shorter o None ≡ o
or_none None = refl
or_none (Some rest) = refl

of_run : (total run : ℕ) (rest : List ℕ) → total - length rest ≡ run → 0 < run → length rest ≤ total → longer total (longer total None kind.Word (Some rest)) kind.Label (after_byte 58 rest) ≡ Some (word_or_label run rest)
unfolding longer
of_run total run [] is some within = rw (is, lt-ltb 0 run some) refl
of_run total run (b ∷ bs) is some within =
    elim (cases_Bool (eqb b 58)) [
      | inl t ↦ let more : total - length bs ≡ run + 1 = omega (arith, is, some, within) in
          rw (is, lt-ltb 0 run some, t, more, lt-ltb run (run + 1) (omega arith)) refl
      | inr f ↦ rw (is, lt-ltb 0 run some, f) refl
    ]

word_at : (b run : ℕ) (bs : List ℕ) → begins_plain_word b ≡ true → suc (length bs) - length (behind is_name_byte bs) ≡ run → 0 < run → length (behind is_name_byte bs) ≤ length bs → front_token (b ∷ bs) ≡ Some (word_or_label run (behind is_name_byte bs))
unfolding front_token after_mark after_dots after_word after_number after_digits after_named after_tagged after_caret after_label after_plain_label after_quoted_label after_quoted after_float after_hexadecimal after_string longer
word_at b run bs h is some within =
    let s = word_no_sign b h in
    let n = word_no_number b h in
    let w = word_is b h in
    rw (s.c, n.minus, n.plus, w.0, w.1, s.point, s.percent, s.at, s.dollar, s.bang, s.hash, s.caret, s.quote, n.nought, n.digit, or_none (after_byte 58 (behind is_name_byte bs)))
    (of_run (suc (length bs)) run (behind is_name_byte bs) is some (omega (arith, within)))

front-word : (b : ℕ) (bs : List ℕ) → begins_plain_word b ≡ true → front_token (b ∷ bs) ≡ Some (word_or_label (name_run (b ∷ bs)) (behind is_name_byte (b ∷ bs)))
front-word b bs h =
    let w = word_is b h in
    let run : name_run (b ∷ bs) ≡ suc (name_run bs) = run-cons is_name_byte b bs ∙ rw w.1 refl in
    let left : length (behind is_name_byte bs) ≡ length bs - name_run bs = ap length (sym (drop-run is_name_byte bs)) ∙ length-drop (name_run bs) bs in
    let is : suc (length bs) - length (behind is_name_byte bs) ≡ name_run (b ∷ bs) = omega (arith, run, left, run-le is_name_byte bs) in
    let same : behind is_name_byte bs ≡ behind is_name_byte (b ∷ bs) = rw w.1 refl in
    word_at b (name_run (b ∷ bs)) bs h is (omega (arith, run)) (omega (arith, left)) ∙ ap (λ (r : List ℕ). Some (word_or_label (name_run (b ∷ bs)) r)) same

front-number : (b : ℕ) (bs : List ℕ) → begins_number b ≡ true → front_token (b ∷ bs) ≡ number_token (b ∷ bs)
unfolding front_token number_token after_mark after_dots after_word after_named after_tagged after_caret after_quoted after_string longer after_number after_label after_float after_hexadecimal
front-number b bs h =
    let s = number_no_sign b h in
    let w = number_is b h in
    rw (s.c, w.0, w.1, s.point, s.percent, s.at, s.dollar, s.bang, s.hash, s.caret, s.quote) refl

-- ---- by the first byte of a text

pub mark-first : (text : List ℕ) → is_lone_mark (get_or text 0 0) ≡ true → front_token text ≡ Some (kind.Mark, 1)
mark-first [] h = absurd (cc h)
mark-first (b ∷ bs) h = front-mark b bs h

pub word-first : (text : List ℕ) → begins_plain_word (get_or text 0 0) ≡ true → front_token text ≡ Some (word_or_label (name_run text) (behind is_name_byte text))
word-first [] h = absurd (cc h)
word-first (b ∷ bs) h = front-word b bs h

pub number-first : (text : List ℕ) → begins_number (get_or text 0 0) ≡ true → front_token text ≡ number_token text
number-first [] h = absurd (cc h)
number-first (b ∷ bs) h = front-number b bs h
