-- Digits and the numbers that have them.
use Rattle.proof_text.proofs.Common.{ℕ, ◌≡◌, ◌<◌, ◌^◌, true, List, [], ◌∷◌, length, get_or, slice_get, All, Contains, Some, None, Ok, Err, Result, MatchResult, subst, sym, ap, ◌∙◌, ⊎_elim, arith, eq-zero-or-pos, decimal, IsAscii-from_digits, decimal-digits_value, decimal_digit, decimal_is_IsNumeral, decimal_nonempty, first_decimal, parse-decimal, All-contains, All-from_get_or, nat_tests, is_digit, IsPrintedNumber}
use Rattle.std.specs.Int.{IsInRange}
use Rattle.std.specs.Result.{result_ok}
use Rattle.std.specs.Str.{IsUtf8}
use Rattle.std.specs.Str.Parse.{AllDigits, ParsesUnsigned, digits_value}
use Rattle.std.proofs.lemmas.Str.Parse.{IsNumeralModel, numerals_by_value, parse_digits, tells_by_index, tells_digits, digit_at}
use Rattle.std.proofs.lemmas.Str.{IsUtf8-from_ascii}

digit_range : (b : ℕ) → is_digit b ≡ true → IsInRange 48 57 b
digit_range b h = grind (arith, nat_tests)

range_digit : (b : ℕ) → IsInRange 48 57 b → is_digit b ≡ true
range_digit b h = grind (arith, nat_tests)

own : IsNumeralModel (AllDigits 10) (digits_value 10)
own = numerals_by_value (AllDigits 10) tells_digits

by_index : IsNumeralModel (λ ds. (i : ℕ) → i < length ds → IsInRange 48 57 (get_or ds i 0)) (digits_value 10)
by_index = numerals_by_value _ tells_by_index

digits_printed : (ds : List ℕ) → IsPrintedNumber ds → AllDigits 10 ds
digits_printed ds h = by_index.to ds (λ i l. digit_range _ (h.1 i 0 l))

first_is : (ds : List ℕ) (b : ℕ) → 0 < length ds → slice_get ds 0 ≡ Some b → get_or ds 0 0 ≡ b
first_is [] b h e = absurd (omega arith)
first_is (x ∷ xs) b h e = cc

is_first : (ds : List ℕ) (b : ℕ) → 0 < length ds → get_or ds 0 0 ≡ b → slice_get ds 0 ≡ Some b
is_first [] b h e = absurd (omega arith)
is_first (x ∷ xs) b h e = ap Some e

-- decimal text is digits
pub digits_of_decimal : (n : ℕ) → n < 2 ^ 64 → All (λ b. is_digit b ≡ true) (decimal n)
digits_of_decimal n h = All-from_get_or (λ b. is_digit b ≡ true) (decimal n) 0 (λ i l. range_digit _ (digit_at (decimal n) i (decimal_is_IsNumeral n h).0.1 l))

no_zero_first : (n : ℕ) → n < 2 ^ 64 → slice_get (decimal n) 0 ≡ Some 48 → length (decimal n) ≡ 1
no_zero_first n h e = ⊎_elim
    (λ z. ap (λ k. length (decimal k)) z ∙ ap length (decimal_digit 0 (omega arith)))
    (λ p. absurd (omega (arith, first_decimal n p h, first_is (decimal n) 48 (decimal_nonempty n h) e)))
    (eq-zero-or-pos n)

pub printed_decimal : (n : ℕ) → n < 2 ^ 64 → IsPrintedNumber (decimal n)
printed_decimal n h = (decimal_nonempty n h, digits_of_decimal n h, no_zero_first n h)

pub utf8_printed : (ds : List ℕ) → IsPrintedNumber ds → IsUtf8 ds
utf8_printed ds h = IsUtf8-from_ascii ds (IsAscii-from_digits ds (digits_printed ds h))

-- what parsing says of digits
pub parsed : {E : Type 0} (ds : List ℕ) (r : Result ℕ E) (n : ℕ) → IsPrintedNumber ds → ParsesUnsigned 64 10 ds r → Some n ≡ result_ok r → ds ≡ decimal n
parsed ds (Err e) n p h is = absurd cc
parsed {E} ds (Ok m) n p h is =
    let f = parse_digits own {E = E} 64 ds (Ok m) h (digits_printed ds p) in
    let same : decimal (digits_value 10 ds) ≡ ds = decimal-digits_value own ds (digits_printed ds p) p.0 (λ e. p.2 (is_first ds 48 p.0 e)) f.0.1 in
    let m_is : m ≡ n = cc in
    sym same ∙ ap decimal (sym f.1 ∙ m_is)

pub parsed_decimal : {E : Type 0} (ds : List ℕ) (r : Result ℕ E) (n : ℕ) → n < 2 ^ 64 → ds ≡ decimal n → ParsesUnsigned 64 10 ds r → Some n ≡ result_ok r
parsed_decimal ds r n h e p = let f = parse-decimal 64 n ds r h h e p in ap result_ok (sym f)

pub no_utf8 : {T E : Type 0} (r : Result T E) (P : T → Type 0) (N : Type 0) (Q : E → Type 0) → None ≡ result_ok r → MatchResult r P (λ e. N × Q e) → N
no_utf8 (Ok x) P N Q e h = absurd cc
no_utf8 (Err y) P N Q e h = h.0

pub found : {T E : Type 0} (r : Result T E) (x : T) (P : T → Type 0) (Q : E → Type 0) → Some x ≡ result_ok r → MatchResult r P Q → P x
found (Ok y) x P Q e h = let same : y ≡ x = cc in subst P same h
found (Err y) x P Q e h = absurd cc

-- no byte of a number is beside the digits
pub free_decimal : (n c : ℕ) → n < 2 ^ 64 → c < 48 → Contains (decimal n) c → ⊥
free_decimal n c h l i = let d = digit_range c (All-contains (λ b. is_digit b ≡ true) (decimal n) c (digits_of_decimal n h) i) in omega arith
