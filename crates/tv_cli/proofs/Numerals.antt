-- A number as a text.
use Rattle.tv_cli.proofs.Common.{◌≡◌, ◌≤◌, ◌&&◌, ℕ, Bool, true, false, refl, List, [], ◌∷◌, length, Some, None, nat_lt, nat_le, lt-ltb, ltb-true, leb-true, list_all, digit_value, AllDigits, IsNumeral, digits_value, without_leading_plus, Range, number_within, and_parts}

digits_pass : (ds : List ℕ) → AllDigits 10 ds → list_all (λ d. nat_lt (digit_value d) 10) ds ≡ true
digits_pass [] h = refl
digits_pass (d ∷ ds) h = rw (lt-ltb (digit_value d) 10 h.0) (digits_pass ds h.1)

digits_from : (ds : List ℕ) → list_all (λ d. nat_lt (digit_value d) 10) ds ≡ true → AllDigits 10 ds
digits_from [] e = tt
digits_from (d ∷ ds) e =
    let parts = and_parts _ _ e in
    (ltb-true _ _ parts.0, digits_from ds parts.1)

-- a numeral is the number, where the range has it
pub numeral_is : (text : List ℕ) (r : Range) → IsNumeral 10 (without_leading_plus text)
    → nat_le r.least (digits_value 10 (without_leading_plus text)) ≡ true → nat_le (digits_value 10 (without_leading_plus text)) r.most ≡ true
    → number_within r text ≡ Some (digits_value 10 (without_leading_plus text))
numeral_is text r numeral least most = rw (lt-ltb 0 (length (without_leading_plus text)) numeral.0, digits_pass (without_leading_plus text) numeral.1, least, most) refl

-- what a text says that is a number
record Passes (text : List ℕ) (r : Range) : Type 0 where
  numeral : IsNumeral 10 (without_leading_plus text)
  most : digits_value 10 (without_leading_plus text) ≤ r.most

passes : (text : List ℕ) (r : Range)
    → (nat_lt 0 (length (without_leading_plus text)) && list_all (λ d. nat_lt (digit_value d) 10) (without_leading_plus text) && nat_le r.least (digits_value 10 (without_leading_plus text)) && nat_le (digits_value 10 (without_leading_plus text)) r.most) ≡ true
    → Passes text r
passes text r e =
    let most = and_parts _ _ e in
    let least = and_parts _ _ most.0 in
    let numeral = and_parts _ _ least.0 in
    record { numeral = (ltb-true _ _ numeral.0, digits_from (without_leading_plus text) numeral.1); most = leb-true _ _ most.1 }

-- a text that is no numeral, or one past the range, is no number
pub no_numeral : (text : List ℕ) (r : Range) → (IsNumeral 10 (without_leading_plus text) → digits_value 10 (without_leading_plus text) ≤ r.most → ⊥) → number_within r text ≡ None
no_numeral text r out = go _ refl
  where
    go : (b : Bool)
        → (nat_lt 0 (length (without_leading_plus text)) && list_all (λ d. nat_lt (digit_value d) 10) (without_leading_plus text) && nat_le r.least (digits_value 10 (without_leading_plus text)) && nat_le (digits_value 10 (without_leading_plus text)) r.most) ≡ b
        → number_within r text ≡ None
    go false e = rw e refl
    go true e =
        let p = passes text r e in
        absurd (out p.numeral p.most)
