-- A token has no blank and no separator outside quotes, but for a mark of one byte.
use Rattle.std.proofs.Common.{◌≡◌, ℕ, Bool, true, false, not, cond, ◌&&◌, ◌||◌, eqb, List, [], ◌∷◌, ◌++◌, Option, Some, None, refl, inl, inr, arith}
use Rattle.std.specs.List.{list_all}
use Rattle.std.proofs.lemmas.Bool.{cases_Bool, or_cases, and_parts}
use Rattle.std.proofs.lemmas.Bool.Decides.{nat_tests}
use Rattle.ir_lexer.specs.declared.token.Kind.{Kind}
use Rattle.ir_lexer.specs.declared.token.Kind.TheVariants as kind
use Rattle.ir_lexer.specs.Bytes.{is_blank, is_digit, begins_word, is_name_byte, begins_name, is_hexadecimal_digit, is_float_kind, is_sign, is_inside_quotes, is_mark_byte}
use Rattle.ir_lexer.specs.Parts.{nothing, one, byte, many, some, maybe}
use Rattle.ir_lexer.specs.Spelling.{is_digits, is_number, is_word, quoted, is_quoted, is_plain_name, is_name, is_word_or_number, is_label, is_exponent, is_exponent_or_nothing, is_float, is_hexadecimal, is_string, is_mark, class_of}
use Rattle.token_text.specs.Pieces.{is_separator}

-- a blank, a separator, or `;`, which begins a comment
abbrev pub is_stop : ℕ → Bool
is_stop b = is_blank b || is_separator b || eqb b 59

-- outside quotes no such byte occurs, and each quote is closed
abbrev pub is_clean : Bool → List ℕ → Bool
is_clean inside [] = not inside
is_clean true (b ∷ bs) = is_clean (not (eqb b 34)) bs
is_clean false (b ∷ bs) = cond (eqb b 34) (is_clean true bs) (not (is_stop b) && is_clean false bs)

pub clean-append : (inside : Bool) (t y : List ℕ) → is_clean inside t ≡ true → is_clean inside (t ++ y) ≡ is_clean false y
clean-append true [] y h = absurd cc
clean-append false [] y h = refl
clean-append true (b ∷ bs) y h = clean-append (not (eqb b 34)) bs y h
clean-append false (b ∷ bs) y h =
    elim (cases_Bool (eqb b 34)) [
      | inl t ↦ rw t (clean-append true bs y (rw t at h))
      | inr f ↦ elim (cases_Bool (is_stop b)) [
        | inl s ↦ let h' : false ≡ true = rw (f, s) at h in absurd cc
        | inr s ↦ rw (f, s) (clean-append false bs y (rw (f, s) at h))
      ]
    ]

no_quote : (b : ℕ) → is_stop b ≡ true → eqb b 34 ≡ false
no_quote b h = grind (arith, nat_tests)

pub stop-clean : (b : ℕ) (bs : List ℕ) → is_stop b ≡ true → is_clean false (b ∷ bs) ≡ false
stop-clean b bs h = rw (no_quote b h, h) refl

-- ---- part by part

abbrev Keeps : (ℕ → Bool) → Type 0
Keeps p = (b : ℕ) → p b ≡ true → (eqb b 34 ≡ false) × (is_stop b ≡ false)

abbrev Cleans : (List ℕ → Bool) → Type 0
Cleans test = (x : List ℕ) → test x ≡ true → is_clean false x ≡ true

more_clean : (p : ℕ → Bool) → Keeps p → (b : ℕ) (bs : List ℕ) → p b ≡ true → is_clean false bs ≡ true → is_clean false (b ∷ bs) ≡ true
more_clean p keeps b bs t h = let k = keeps b t in rw (k.0, k.1) h

nothing_clean : Cleans nothing
nothing_clean [] h = refl
nothing_clean (b ∷ bs) h = absurd cc

one_clean : (p : ℕ → Bool) (k : List ℕ → Bool) → Keeps p → Cleans k → Cleans (one p k)
one_clean p k keeps cleans [] h = refl
one_clean p k keeps cleans (b ∷ bs) h = let e = and_parts (p b) (k bs) h in more_clean p keeps b bs e.0 (cleans bs e.1)

many_clean : (p : ℕ → Bool) (k : List ℕ → Bool) → Keeps p → Cleans k → Cleans (many p k)
many_clean p k keeps cleans [] h = refl
many_clean p k keeps cleans (b ∷ bs) h =
    elim (cases_Bool (p b)) [
      | inl t ↦ more_clean p keeps b bs t (many_clean p k keeps cleans bs (rw t at h))
      | inr f ↦ cleans (b ∷ bs) (rw f at h)
    ]

some_clean : (p : ℕ → Bool) (k : List ℕ → Bool) → Keeps p → Cleans k → Cleans (some p k)
some_clean p k keeps cleans = one_clean p (many p k) keeps (many_clean p k keeps cleans)

maybe_clean : (p : ℕ → Bool) (k : List ℕ → Bool) → Keeps p → Cleans k → Cleans (maybe p k)
maybe_clean p k keeps cleans [] h = cleans [] h
maybe_clean p k keeps cleans (b ∷ bs) h =
    elim (cases_Bool (p b)) [
      | inl t ↦ more_clean p keeps b bs t (cleans bs (rw t at h))
      | inr f ↦ cleans (b ∷ bs) (rw f at h)
    ]

either_clean : (j k : List ℕ → Bool) → Cleans j → Cleans k → Cleans (λ t. j t || k t)
either_clean j k first second x h =
    elim (or_cases (j x) (k x) h) [
      | inl t ↦ first x t
      | inr t ↦ second x t
    ]

inside_clean : (k : List ℕ → Bool) → Cleans k → (x : List ℕ) → many is_inside_quotes (byte 34 k) x ≡ true → is_clean true x ≡ true
inside_clean k cleans [] h = absurd cc
inside_clean k cleans (b ∷ bs) h =
    elim (cases_Bool (eqb b 34)) [
      | inl t ↦ rw t (cleans bs (rw (t, t) at h))
      | inr f ↦ rw f (inside_clean k cleans bs (rw f at h))
    ]

quoted_clean : (k : List ℕ → Bool) → Cleans k → Cleans (quoted k)
quoted_clean k cleans [] h = absurd cc
quoted_clean k cleans (b ∷ bs) h =
    let e = and_parts (eqb b 34) (many is_inside_quotes (byte 34 k) bs) h in
    rw e.0 (inside_clean k cleans bs e.1)

-- ---- each class

byte_keeps : (w : ℕ) → (eqb w 34 ≡ false) × (is_stop w ≡ false) → Keeps (λ b. eqb b w)
byte_keeps w h b t = let e : b ≡ w = grind (arith, nat_tests) in rw e h

digit_keeps : Keeps is_digit
digit_keeps b h = (grind (arith, nat_tests), grind (arith, nat_tests))

name_keeps : Keeps is_name_byte
name_keeps b h = (grind (arith, nat_tests), grind (arith, nat_tests))

begins_word_keeps : Keeps begins_word
begins_word_keeps b h = (grind (arith, nat_tests), grind (arith, nat_tests))

begins_name_keeps : Keeps begins_name
begins_name_keeps b h = (grind (arith, nat_tests), grind (arith, nat_tests))

hexadecimal_keeps : Keeps is_hexadecimal_digit
hexadecimal_keeps b h = (grind (arith, nat_tests), grind (arith, nat_tests))

float_kind_keeps : Keeps is_float_kind
float_kind_keeps b h = (grind (arith, nat_tests), grind (arith, nat_tests))

sign_keeps : Keeps is_sign
sign_keeps b h = (grind (arith, nat_tests), grind (arith, nat_tests))

digits_clean : Cleans is_digits
digits_clean [] h = refl
digits_clean (b ∷ []) h = let e = and_parts (is_digit b) true h in more_clean is_digit digit_keeps b [] e.0 refl
digits_clean (b ∷ c ∷ bs) h = let e = and_parts (is_digit b) (list_all is_digit (c ∷ bs)) h in more_clean is_digit digit_keeps b (c ∷ bs) e.0 (digits_clean (c ∷ bs) e.1)

number_clean : Cleans is_number
number_clean = maybe_clean (λ b. eqb b 45) is_digits (byte_keeps 45 (refl, refl)) digits_clean

word_clean : Cleans is_word
word_clean = one_clean begins_word (many is_name_byte nothing) begins_word_keeps (many_clean is_name_byte nothing name_keeps nothing_clean)

plain_name_clean : Cleans is_plain_name
plain_name_clean = one_clean begins_name (many is_name_byte nothing) begins_name_keeps (many_clean is_name_byte nothing name_keeps nothing_clean)

is_quoted_clean : Cleans is_quoted
is_quoted_clean = quoted_clean nothing nothing_clean

name_clean : Cleans is_name
name_clean = either_clean (λ t. is_digits t || is_plain_name t) is_quoted (either_clean is_digits is_plain_name digits_clean plain_name_clean) is_quoted_clean

word_or_number_clean : Cleans is_word_or_number
word_or_number_clean = either_clean is_word is_number word_clean number_clean

byte_clean : (w : ℕ) (k : List ℕ → Bool) → (eqb w 34 ≡ false) × (is_stop w ≡ false) → Cleans k → Cleans (byte w k)
byte_clean w k h cleans = one_clean (λ b. eqb b w) k (byte_keeps w h) cleans

colon_clean : Cleans (byte 58 nothing)
colon_clean = byte_clean 58 nothing (refl, refl) nothing_clean

label_clean : Cleans is_label
label_clean = either_clean (some is_name_byte (byte 58 nothing)) (quoted (byte 58 nothing)) (some_clean is_name_byte (byte 58 nothing) name_keeps colon_clean) (quoted_clean (byte 58 nothing) colon_clean)

exponent_clean : Cleans is_exponent
exponent_clean = byte_clean 101 (one is_sign (some is_digit nothing)) (refl, refl) (one_clean is_sign (some is_digit nothing) sign_keeps (some_clean is_digit nothing digit_keeps nothing_clean))

float_clean : Cleans is_float
float_clean =
    maybe_clean is_sign (some is_digit (byte 46 (some is_digit is_exponent_or_nothing))) sign_keeps
    (some_clean is_digit (byte 46 (some is_digit is_exponent_or_nothing)) digit_keeps
    (byte_clean 46 (some is_digit is_exponent_or_nothing) (refl, refl)
    (some_clean is_digit is_exponent_or_nothing digit_keeps (either_clean is_exponent nothing exponent_clean nothing_clean))))

is_hexadecimal_clean : Cleans is_hexadecimal
is_hexadecimal_clean =
    byte_clean 48 (byte 120 (maybe is_float_kind (some is_hexadecimal_digit nothing))) (refl, refl)
    (byte_clean 120 (maybe is_float_kind (some is_hexadecimal_digit nothing)) (refl, refl)
    (maybe_clean is_float_kind (some is_hexadecimal_digit nothing) float_kind_keeps (some_clean is_hexadecimal_digit nothing hexadecimal_keeps nothing_clean)))

string_clean : Cleans is_string
string_clean = maybe_clean (λ b. eqb b 99) is_quoted (byte_keeps 99 (refl, refl)) is_quoted_clean

dots_clean : Cleans (byte 46 (byte 46 (byte 46 nothing)))
dots_clean = byte_clean 46 (byte 46 (byte 46 nothing)) (refl, refl) (byte_clean 46 (byte 46 nothing) (refl, refl) (byte_clean 46 nothing (refl, refl) nothing_clean))

-- a mark of more than one byte
mark_clean : (b c : ℕ) (bs : List ℕ) → is_mark (b ∷ c ∷ bs) ≡ true → is_clean false (b ∷ c ∷ bs) ≡ true
mark_clean b c bs h =
    elim (or_cases (one is_mark_byte nothing (b ∷ c ∷ bs)) (byte 46 (byte 46 (byte 46 nothing)) (b ∷ c ∷ bs)) h) [
      | inl t ↦ let e = and_parts (is_mark_byte b) false t in absurd cc
      | inr t ↦ dots_clean (b ∷ c ∷ bs) t
    ]

-- ---- all classes

-- where the first test fails, what the others say
step : (test : List ℕ → Bool) (k k' : Kind) (rest : Option Kind) (x : List ℕ) → Cleans test → cond (test x) (Some k) rest ≡ Some k' → (rest ≡ Some k' → is_clean false x ≡ true) → is_clean false x ≡ true
step test k k' rest x cleans h others =
    elim (cases_Bool (test x)) [
      | inl t ↦ cleans x t
      | inr f ↦ others (rw f at h)
    ]

no_mark : (x : List ℕ) (k : Kind) (rest : Option Kind) → cond (is_mark x) (Some kind.Mark) rest ≡ Some k → (is_mark x ≡ true → is_clean false x ≡ true) → (rest ≡ Some k → is_clean false x ≡ true) → is_clean false x ≡ true
no_mark x k rest h first others =
    elim (cases_Bool (is_mark x)) [
      | inl t ↦ first t
      | inr f ↦ others (rw f at h)
    ]

by_class : (x : List ℕ) (k : Kind) → (is_mark x ≡ true → is_clean false x ≡ true) → class_of x ≡ Some k → is_clean false x ≡ true
by_class x k mark h =
    no_mark x k _ h mark (λ h. step is_word kind.Word k _ x word_clean h
    (λ h. step is_number kind.Number k _ x number_clean h
    (λ h. step (byte 37 is_name) kind.Local k _ x (byte_clean 37 is_name (refl, refl) name_clean) h
    (λ h. step (byte 64 is_name) kind.Global k _ x (byte_clean 64 is_name (refl, refl) name_clean) h
    (λ h. step (byte 36 is_name) kind.Comdat k _ x (byte_clean 36 is_name (refl, refl) name_clean) h
    (λ h. step (byte 33 is_word_or_number) kind.Metadata k _ x (byte_clean 33 is_word_or_number (refl, refl) word_or_number_clean) h
    (λ h. step (byte 35 is_word_or_number) kind.Hash k _ x (byte_clean 35 is_word_or_number (refl, refl) word_or_number_clean) h
    (λ h. step (byte 94 is_number) kind.Caret k _ x (byte_clean 94 is_number (refl, refl) number_clean) h
    (λ h. step is_label kind.Label k _ x label_clean h
    (λ h. step is_float kind.Float k _ x float_clean h
    (λ h. step is_hexadecimal kind.Hexadecimal k _ x is_hexadecimal_clean h
    (λ h. step is_string kind.String k None x string_clean h
    (λ h. absurd (some_none k h))))))))))))))
  where
    some_none : (k : Kind) → None ≡ Some k → ⊥
    some_none k h = cc

-- no byte outside quotes ends a token of more than one byte
pub long-clean : (b c : ℕ) (bs : List ℕ) (k : Kind) → class_of (b ∷ c ∷ bs) ≡ Some k → is_clean false (b ∷ c ∷ bs) ≡ true
long-clean b c bs k h = by_class (b ∷ c ∷ bs) k (mark_clean b c bs) h

mark_is : (x : List ℕ) (k : Kind) → is_mark x ≡ true → class_of x ≡ Some k → k ≡ kind.Mark
mark_is x k t h = let e : Some kind.Mark ≡ Some k = rw t at h in cc

pub token-clean : (x : List ℕ) (k : Kind) → (k ≡ kind.Mark → ⊥) → class_of x ≡ Some k → is_clean false x ≡ true
token-clean x k other h = by_class x k (λ t. absurd (other (mark_is x k t h))) h
