-- A printed name is read as itself.
use Rattle.read_back.proofs.Common.{◌≡◌, ℕ, suc, ◌+◌, ◌-◌, ◌*◌, ◌/◌, ◌%◌, ◌<◌, Bool, true, false, eqb, cond, List, [], ◌∷◌, ◌++◌, length, take, refl, sym, ap, ◌∙◌, arith, not, All, list_all, flat_map, and_parts, and_left, ne_eqb, not-true, nat_tests, take_at, length-append, is_hexadecimal_digit, is_digits, Name, without_zeros, hexadecimal_value, is_backslash, unescaped, name_of, hex_digit, hex_byte, is_bare, is_plain, escaped, quoted, name_text}
use Rattle.ir_lexer.specs.Bytes as bytes
use Rattle.ir_tree.specs.declared.name.Name.TheVariants as name
use Rattle.ir_naming.specs.Naming.{is_digit, is_name_byte}
use Rattle.read_back.proofs.Spellable.{IsName}
use Rattle.read_back.proofs.SpelledNumbers.{digit-range}

-- ---- escapes

hex-value : (n : ℕ) → n < 16 → hexadecimal_value (hex_digit 65 n) ≡ n
hex-value n h = grind (arith, nat_tests)

hex-is : (n : ℕ) → n < 16 → is_hexadecimal_digit (hex_digit 65 n) ≡ true
hex-is n h = grind (arith, nat_tests)

hex-no-backslash : (n : ℕ) → n < 16 → is_backslash (hex_digit 65 n) ≡ false
hex-no-backslash n h = grind (arith, nat_tests)

plain-no-backslash : (b : ℕ) → is_plain b ≡ true → is_backslash b ≡ false
plain-no-backslash b h = grind (arith, nat_tests)

unescaped-plain : (b : ℕ) (rest : List ℕ) → is_backslash b ≡ false
    → unescaped (b ∷ rest) ≡ b ∷ unescaped rest
unescaped-plain b [] e = refl
unescaped-plain b (c ∷ []) e = rw e refl
unescaped-plain b (c ∷ d ∷ rest) e = rw e refl

unescaped-digits : (h l : ℕ) (rest : List ℕ) → is_backslash h ≡ false
    → is_hexadecimal_digit h ≡ true → is_hexadecimal_digit l ≡ true
    → unescaped
    (92 ∷ h ∷ l ∷ rest) ≡ (16 * hexadecimal_value h + hexadecimal_value l) ∷ unescaped rest
unescaped-digits h l rest a b c = rw (a, b, c) refl

both-halves : (b : ℕ) → 16 * (b / 16) + b % 16 ≡ b
both-halves b = omega arith

unescaped-byte : (b : ℕ) (rest : List ℕ) → b < 256
    → unescaped (92 ∷ hex_byte 65 b ++ rest) ≡ b ∷ unescaped rest
unescaped-byte b rest small =
    let high : b / 16 < 16 = omega (arith, small) in
    let low : b % 16 < 16 = omega arith in
    let value : 16 * hexadecimal_value (hex_digit 65 (b / 16)) + hexadecimal_value
    (hex_digit 65 (b % 16)) ≡ b = rw (hex-value (b / 16) high, hex-value (b % 16) low)
    (both-halves b) in
    unescaped-digits (hex_digit 65 (b / 16)) (hex_digit 65 (b % 16)) rest
    (hex-no-backslash (b / 16) high) (hex-is (b / 16) high) (hex-is (b % 16) low) ∙ ap
    (λ (x : ℕ). x ∷ unescaped rest) value

unescaped-escaped : (b : ℕ) (rest : List ℕ) → b < 256
    → unescaped (escaped b ++ rest) ≡ b ∷ unescaped rest
unescaped-escaped b rest small = go (is_plain b) refl
  where
    go : (p : Bool) → is_plain b ≡ p
        → unescaped (cond p (b ∷ []) (92 ∷ hex_byte 65 b) ++ rest) ≡ b ∷ unescaped rest
    go true is = unescaped-plain b rest (plain-no-backslash b is)
    go false is = unescaped-byte b rest small

first-small : (b : ℕ) (bs : List ℕ) → All (λ (x : ℕ). x < 256) (b ∷ bs) → b < 256
first-small b bs all = all 0 0 (omega arith)

others-small : (b : ℕ) (bs : List ℕ) → All (λ (x : ℕ). x < 256) (b ∷ bs)
    → All (λ (x : ℕ). x < 256) bs
others-small b bs all k d l = all (suc k) d (omega (arith, l))

escaped-again : (bs : List ℕ) → All (λ (x : ℕ). x < 256) bs → unescaped (flat_map escaped bs) ≡ bs
escaped-again [] all = refl
escaped-again (b ∷ bs) all =
    unescaped-escaped b (flat_map escaped bs) (first-small b bs all) ∙ ap (λ (xs : List ℕ). b ∷ xs)
    (escaped-again bs (others-small b bs all))

-- ---- names

one-less : (n : ℕ) → n + 1 - 1 ≡ n
one-less n = omega arith

without-last : (xs : List ℕ) (last : ℕ) → take (length (xs ++ last ∷ []) - 1) (xs ++ last ∷ []) ≡ xs
without-last xs last =
    let long : length (xs ++ last ∷ []) ≡ length xs + 1 = length-append xs (last ∷ []) in
    take_at xs (last ∷ []) (length (xs ++ last ∷ []) - 1)
    (sym (ap (λ (n : ℕ). n - 1) long ∙ one-less (length xs)))

quoted-again : (bs : List ℕ) → All (λ (x : ℕ). x < 256) bs → name_of (quoted bs) ≡ name.Word bs
quoted-again bs all =
    ap (λ (xs : List ℕ). name.Word (unescaped xs)) (without-last (flat_map escaped bs) 34)
    ∙ ap name.Word (escaped-again bs all)

no-quote : (b : ℕ) → is_name_byte b ≡ true → eqb b 34 ≡ false
no-quote b h = grind (arith, nat_tests)

no-digit : (b : ℕ) → is_digit b ≡ false → bytes.is_digit b ≡ false
no-digit b h = grind (arith, nat_tests)

bare-again : (b : ℕ) (bs : List ℕ) → is_bare (b ∷ bs) ≡ true → name_of (b ∷ bs) ≡ name.Word (b ∷ bs)
bare-again b bs h =
    let both = and_parts (not (is_digit b)) (list_all is_name_byte (b ∷ bs)) h in
    let byte = and_parts (is_name_byte b) (list_all is_name_byte bs) both.1 in
    let digit : is_digits (b ∷ bs) ≡ false = and_left _ _ (no-digit b (not-true _ both.0)) in
    rw (no-quote b byte.0, digit) refl

no-quote-digit : (b : ℕ) → bytes.is_digit b ≡ true → eqb b 34 ≡ false
no-quote-digit b h =
    let range = digit-range b h in ne_eqb b 34 (λ (same : b ≡ 34). omega (arith, range.0, same))

number-again : (digits : List ℕ) → is_digits digits ≡ true → without_zeros digits ≡ digits
    → name_of digits ≡ name.Number digits
number-again [] h e = absurd (cc h)
number-again (d ∷ ds) h e = rw (no-quote-digit d (and_parts _ _ h).0, h) (ap name.Number e)

word-again : (bytes : List ℕ) → All (λ (x : ℕ). x < 256) bytes
    → name_of (name_text (name.Word bytes)) ≡ name.Word bytes
word-again bytes all = go bytes all (is_bare bytes) refl
  where
    go : (xs : List ℕ) → All (λ (x : ℕ). x < 256) xs → (bare : Bool) → is_bare xs ≡ bare
        → name_of (cond bare xs (quoted xs)) ≡ name.Word xs
    go xs small false is = quoted-again xs small
    go [] small true is = absurd (cc is)
    go (x ∷ xs) small true is = bare-again x xs is

pub name-again : (n : Name) → IsName n → name_of (name_text n) ≡ n
name-again (name.Number digits) (d, z) = number-again digits d z
name-again (name.Word bytes) all = word-again bytes all

pub label-again : (n : Name) → IsName n
    → name_of (take (length (name_text n ++ 58 ∷ []) - 1) (name_text n ++ 58 ∷ [])) ≡ n
label-again n is = ap name_of (without-last (name_text n) 58) ∙ name-again n is
