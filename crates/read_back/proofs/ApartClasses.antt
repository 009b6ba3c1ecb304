-- The classes of what is printed of names, numbers and types.
use Rattle.read_back.proofs.Common.{◌≡◌, ℕ, ◌+◌, ◌<◌, ◌^◌, ◌%◌, ◌/◌, Bool, true, false, eqb, List, [], ◌∷◌, ◌++◌, Some, refl, ap, ◌∙◌, append_assoc, inl, inr, arith, list_all, flat_map, decimal, cases_Bool, and_parts, nat_tests, decimal_by_steps, is_digit, begins_word, is_name_byte, begins_name, is_inside_quotes, is_mark_byte, nothing, byte, behind, many, is_digits, is_number, is_word, is_quoted, is_plain_name, is_name, is_mark, class_of, Name, escaped, hex_digit, is_bare, is_plain, name_text}
use Rattle.std.proofs.Common.{not, ◌||◌}
use Rattle.ir_lexer.specs.declared.token.Kind.TheVariants as kind
use Rattle.ir_lexer.specs.Spelling as spelling
use Rattle.ir_tree.specs.declared.name.Name.TheVariants as name
use Rattle.ir_naming.specs.Naming as naming

-- ---- decimal numbers

digit_of : (n : ℕ) → n < 10 → is_digit (48 + n) ≡ true
digit_of n h = grind (arith, nat_tests)

one_digit : (n : ℕ) → n < 10 → is_digits ((48 + n) ∷ []) ≡ true
one_digit n h = rw (digit_of n h) refl

digits_more : (ds : List ℕ) (d : ℕ) → list_all is_digit ds ≡ true → is_digit d ≡ true → list_all is_digit (ds ++ d ∷ []) ≡ true
digits_more [] d h t = rw t refl
digits_more (e ∷ ds) d h t = let p = and_parts (is_digit e) (list_all is_digit ds) h in rw p.0 (digits_more ds d p.1 t)

is_digits_more : (ds : List ℕ) (d : ℕ) → is_digits ds ≡ true → is_digit d ≡ true → is_digits (ds ++ d ∷ []) ≡ true
is_digits_more [] d h t = absurd cc
is_digits_more (e ∷ ds) d h t = digits_more (e ∷ ds) d h t

last_digit : (n : ℕ) → is_digit (48 + n % 10) ≡ true
last_digit n = digit_of (n % 10) (omega arith)

pub decimal-digits : (n : ℕ) → n < 2 ^ 64 → is_digits (decimal n) ≡ true
decimal-digits n h = decimal_by_steps (λ (n : ℕ) (ds : List ℕ). is_digits ds ≡ true) one_digit (λ n ds le t. is_digits_more ds (48 + n % 10) t (last_digit n)) n h

-- ---- digits

no_mark_digit : (d : ℕ) → is_digit d ≡ true → (is_mark_byte d ≡ false) × (eqb d 46 ≡ false) × (begins_word d ≡ false) × (eqb d 45 ≡ false)
no_mark_digit d h = (grind (arith, nat_tests), grind (arith, nat_tests), grind (arith, nat_tests), grind (arith, nat_tests))

number_by : (x : List ℕ) → is_mark x ≡ false → is_word x ≡ false → is_number x ≡ true → class_of x ≡ Some kind.Number
number_by x m w n = rw (m, w, n) refl

pub number-class : (ds : List ℕ) → is_digits ds ≡ true → class_of ds ≡ Some kind.Number
number-class [] h = absurd cc
number-class (d ∷ ds) h =
    let p = and_parts (is_digit d) (list_all is_digit ds) h in
    let o = no_mark_digit d p.0 in
    number_by (d ∷ ds) (rw (o.0, o.1) refl) (rw o.2 refl) (rw o.3 h)

digit_name : (d : ℕ) → is_digit d ≡ true → is_name_byte d ≡ true
digit_name d h = grind (arith, nat_tests)

pub digits-names : (ds : List ℕ) → list_all is_digit ds ≡ true → list_all is_name_byte ds ≡ true
digits-names [] h = refl
digits-names (d ∷ ds) h = let p = and_parts (is_digit d) (list_all is_digit ds) h in rw (digit_name d p.0) (digits-names ds p.1)

all_nothing : (p : ℕ → Bool) (ds : List ℕ) → list_all p ds ≡ true → many p nothing ds ≡ true
all_nothing p [] h = refl
all_nothing p (d ∷ ds) h = let e = and_parts (p d) (list_all p ds) h in rw e.0 (all_nothing p ds e.1)

all_digits : (ds : List ℕ) → is_digits ds ≡ true → list_all is_digit ds ≡ true
all_digits [] h = absurd cc
all_digits (d ∷ ds) h = h

-- i and digits
pub int_type-class : (ds : List ℕ) → is_digits ds ≡ true → class_of (105 ∷ ds) ≡ Some kind.Word
int_type-class ds h = rw (all_nothing is_name_byte ds (digits-names ds (all_digits ds h))) refl

-- ---- names

-- a number has digits
abbrev pub HasDigits : Name → Type 0
HasDigits (name.Number ds) = is_digits ds ≡ true
HasDigits (name.Word bytes) = Unit {0}

byte_same : (b : ℕ) → naming.is_name_byte b ≡ true → is_name_byte b ≡ true
byte_same b h = grind (arith, nat_tests)

first_same : (b : ℕ) → not (naming.is_digit b) ≡ true → naming.is_name_byte b ≡ true → begins_name b ≡ true
first_same b d h = grind (arith, nat_tests)

bytes_same : (bs : List ℕ) → list_all naming.is_name_byte bs ≡ true → list_all is_name_byte bs ≡ true
bytes_same [] h = refl
bytes_same (b ∷ bs) h = let e = and_parts (naming.is_name_byte b) (list_all naming.is_name_byte bs) h in rw (byte_same b e.0) (bytes_same bs e.1)

-- the bytes of a bare word
pub record Bare (b : ℕ) (bs : List ℕ) : Type 0 where
  pub first : begins_name b ≡ true
  pub here : is_name_byte b ≡ true
  pub others : list_all is_name_byte bs ≡ true

pub bare : (b : ℕ) (bs : List ℕ) → is_bare (b ∷ bs) ≡ true → Bare b bs
bare b bs h =
    let e = and_parts (not (naming.is_digit b)) (list_all naming.is_name_byte (b ∷ bs)) h in
    let f = and_parts (naming.is_name_byte b) (list_all naming.is_name_byte bs) e.1 in
    record { first = first_same b e.0 f.0; here = byte_same b f.0; others = bytes_same bs f.1 }

-- ---- quotes

high_digit : (n : ℕ) → is_inside_quotes (hex_digit 65 n) ≡ true
high_digit n = grind (arith, nat_tests)

plain_inside : (b : ℕ) → is_plain b ≡ true → is_inside_quotes b ≡ true
plain_inside b h = grind (arith, nat_tests)

one_inside : (b : ℕ) (rest : List ℕ) → behind is_inside_quotes (escaped b ++ rest) ≡ behind is_inside_quotes rest
one_inside b rest =
    elim (cases_Bool (is_plain b)) [
      | inl t ↦ rw (t, plain_inside b t) refl
      | inr f ↦ rw (f, high_digit (b / 16), high_digit (b % 16)) refl
    ]

-- what follows a word's bytes, up to a quote
inside : (bs rest : List ℕ) → behind is_inside_quotes (flat_map escaped bs ++ 34 ∷ rest) ≡ 34 ∷ rest
inside [] rest = refl
inside (b ∷ bs) rest =
    let e : (escaped b ++ flat_map escaped bs) ++ 34 ∷ rest ≡ escaped b ++ (flat_map escaped bs ++ 34 ∷ rest) = append_assoc (escaped b) (flat_map escaped bs) (34 ∷ rest) in
    ap (behind is_inside_quotes) e ∙ one_inside b (flat_map escaped bs ++ 34 ∷ rest) ∙ inside bs rest

pub quoted-then : (k : List ℕ → Bool) (bs rest : List ℕ) → spelling.quoted k (34 ∷ (flat_map escaped bs ++ 34 ∷ rest)) ≡ k rest
quoted-then k bs rest = ap (byte 34 k) (inside bs rest)

-- ---- names after a sign

plain_is : (bs : List ℕ) → is_bare bs ≡ true → is_plain_name bs ≡ true
plain_is [] h = absurd cc
plain_is (b ∷ bs) h = let e = bare b bs h in rw e.first (all_nothing is_name_byte bs e.others)

name_by : (x : List ℕ) → is_digits x ≡ true → is_name x ≡ true
name_by x h = rw h refl

name_by_plain : (x : List ℕ) (first : Bool) → is_plain_name x ≡ true → (first || is_plain_name x || is_quoted x) ≡ true
name_by_plain x true h = refl
name_by_plain x false h = rw h refl

pub name-is : (n : Name) → HasDigits n → is_name (name_text n) ≡ true
name-is (name.Number ds) h = name_by ds h
name-is (name.Word bytes) h =
    elim (cases_Bool (is_bare bytes)) [
      | inl t ↦ rw t (name_by_plain bytes (is_digits bytes) (plain_is bytes t))
      | inr f ↦ rw f (quoted-then nothing bytes [])
    ]

pub local-class : (n : Name) → HasDigits n → class_of (37 ∷ name_text n) ≡ Some kind.Local
local-class n h = let e = name-is n h in rw e refl

pub global-class : (n : Name) → HasDigits n → class_of (64 ∷ name_text n) ≡ Some kind.Global
global-class n h = let e = name-is n h in rw e refl
