-- A printed name is read as itself.
use Rattle.read_back.proofs.Common.{◌≡◌, ℕ, ◌+◌, ◌-◌, ◌*◌, ◌/◌, ◌%◌, ◌<◌, true, false, eqb, List, [], ◌∷◌, ◌++◌, length, refl, ap, ◌∙◌, inl, inr, arith, list_all, flat_map, AllByRecursion, cases_Bool, and_parts, nat_tests, length-append, take_at, is_digit, is_hexadecimal_digit, is_digits, escaped, hex_digit, is_bare, is_plain, name_text, without_zeros, hexadecimal_value, is_backslash, unescaped, name_of}
use Rattle.std.proofs.Common.{not}
use Rattle.ir_tree.specs.declared.name.Name.TheVariants as name
use Rattle.ir_naming.specs.Naming as naming

-- ---- one byte

hexadecimal : (n : ℕ) → n < 16 → (is_hexadecimal_digit (hex_digit 65 n) ≡ true) × (is_backslash (hex_digit 65 n) ≡ false)
hexadecimal n h = (grind (arith, nat_tests), grind (arith, nat_tests))

value_is : (n : ℕ) → n < 16 → hexadecimal_value (hex_digit 65 n) ≡ n
value_is n h = grind (arith, nat_tests)

plain_is : (b : ℕ) → is_plain b ≡ true → is_backslash b ≡ false
plain_is b h = grind (arith, nat_tests)

goes_on : (b : ℕ) (rest : List ℕ) → is_backslash b ≡ false → unescaped (b ∷ rest) ≡ b ∷ unescaped rest
goes_on b [] h = refl
goes_on b (c ∷ []) h = rw h refl
goes_on b (c ∷ d ∷ rest) h = rw h refl

by_digits : (c d : ℕ) (rest : List ℕ) → is_hexadecimal_digit c ≡ true → is_hexadecimal_digit d ≡ true → is_backslash c ≡ false → unescaped (92 ∷ c ∷ d ∷ rest) ≡ (16 * hexadecimal_value c + hexadecimal_value d) ∷ unescaped rest
by_digits c d rest h k other = rw (other, h, k) refl

two_digits : (b : ℕ) (rest : List ℕ) → b < 256 → unescaped (92 ∷ hex_digit 65 (b / 16) ∷ hex_digit 65 (b % 16) ∷ rest) ≡ b ∷ unescaped rest
two_digits b rest h =
    let high : b / 16 < 16 = omega arith in
    let low : b % 16 < 16 = omega arith in
    let first = hexadecimal (b / 16) high in
    let second = hexadecimal (b % 16) low in
    let sum : 16 * hexadecimal_value (hex_digit 65 (b / 16)) + hexadecimal_value (hex_digit 65 (b % 16)) ≡ b = omega (arith, value_is (b / 16) high, value_is (b % 16) low) in
    by_digits (hex_digit 65 (b / 16)) (hex_digit 65 (b % 16)) rest first.0 second.0 first.1 ∙ ap (λ (x : ℕ). x ∷ unescaped rest) sum

one_escaped : (b : ℕ) (rest : List ℕ) → b < 256 → unescaped (escaped b ++ rest) ≡ b ∷ unescaped rest
one_escaped b rest h =
    elim (cases_Bool (is_plain b)) [
      | inl t ↦ rw t (goes_on b rest (plain_is b t))
      | inr f ↦ rw f (two_digits b rest h)
    ]

all_escaped : (bytes : List ℕ) → AllByRecursion (λ (b : ℕ). b < 256) bytes → unescaped (flat_map escaped bytes) ≡ bytes
all_escaped [] h = refl
all_escaped (b ∷ bytes) h = one_escaped b (flat_map escaped bytes) h.0 ∙ ap (λ (l : List ℕ). b ∷ l) (all_escaped bytes h.1)

-- ---- names

digit_other : (d : ℕ) → is_digit d ≡ true → eqb d 34 ≡ false
digit_other d h = grind (arith, nat_tests)

pub number-name_of : (ds : List ℕ) → is_digits ds ≡ true → without_zeros ds ≡ ds → name_of ds ≡ name.Number ds
number-name_of [] h e = absurd cc
number-name_of (d ∷ ds) h e =
    let p = and_parts (is_digit d) (list_all is_digit ds) h in
    rw (digit_other d p.0, h) (ap (λ (l : List ℕ). name.Number l) e)

first_other : (b : ℕ) → not (naming.is_digit b) ≡ true → naming.is_name_byte b ≡ true → (eqb b 34 ≡ false) × (is_digit b ≡ false)
first_other b d h = (grind (arith, nat_tests), grind (arith, nat_tests))

bare_name : (bytes : List ℕ) → is_bare bytes ≡ true → name_of bytes ≡ name.Word bytes
bare_name [] h = refl
bare_name (b ∷ bs) h =
    let e = and_parts (not (naming.is_digit b)) (list_all naming.is_name_byte (b ∷ bs)) h in
    let f = and_parts (naming.is_name_byte b) (list_all naming.is_name_byte bs) e.1 in
    let o = first_other b e.0 f.0 in
    rw (o.0, o.1) refl

quoted_name : (text : List ℕ) → name_of (34 ∷ (text ++ 34 ∷ [])) ≡ name.Word (unescaped text)
quoted_name text =
    let len : length text ≡ length (text ++ 34 ∷ []) - 1 = omega (arith, length-append text (34 ∷ [])) in
    ap (λ (l : List ℕ). name.Word (unescaped l)) (take_at text (34 ∷ []) (length (text ++ 34 ∷ []) - 1) len)

pub word-name_of : (bytes : List ℕ) → AllByRecursion (λ (b : ℕ). b < 256) bytes → name_of (name_text (name.Word bytes)) ≡ name.Word bytes
word-name_of bytes h =
    elim (cases_Bool (is_bare bytes)) [
      | inl t ↦ rw t (bare_name bytes t)
      | inr f ↦ rw f (quoted_name (flat_map escaped bytes) ∙ ap (λ (l : List ℕ). name.Word l) (all_escaped bytes h))
    ]
