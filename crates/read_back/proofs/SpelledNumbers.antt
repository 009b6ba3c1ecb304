-- A printed number is read as itself.
use Rattle.read_back.proofs.Common.{◌≡◌, ℕ, ◌+◌, ◌-◌, ◌*◌, ◌/◌, ◌%◌, ◌^◌, ◌<◌, ◌≤◌, Bool, true, false, eqb, ltb, List, [], ◌∷◌, ◌++◌, refl, sym, ap, subst, ◌∙◌, arith, ◌||◌, nat_eq, list_all, list_any, Contains, decimal, decimal_by_steps, pow-le-pow_right, ltb-true, le-leb, leb-true, and_parts, and_from, ne_eqb, eq-eqb, eqb-true, is_digit, is_digits, value_after, value_of, is_negative, magnitude, alignments}
use Rattle.std.specs.Prelude.{get_or}
use Rattle.std.proofs.lemmas.List.Folds.{list_any_at}

-- digits of this value
pub record IsNumeral (n : ℕ) (ds : List ℕ) : Type 0 where
  pub first : ℕ
  pub others : List ℕ
  pub is : ds ≡ first ∷ others
  pub digits : list_all is_digit (first ∷ others) ≡ true
  pub value : value_of (first ∷ others) ≡ n

last-value : (v : ℕ) (ds : List ℕ) (d : ℕ)
    → value_after v (ds ++ d ∷ []) ≡ value_after v ds * 10 + (d - 48)
last-value v [] d = refl
last-value v (e ∷ ds) d = last-value (v * 10 + (e - 48)) ds d

pub is-digit : (d : ℕ) → 48 ≤ d → d ≤ 57 → is_digit d ≡ true
is-digit d low high = rw (le-leb 48 d low, le-leb d 57 high) refl

pub digit-range : (d : ℕ) → is_digit d ≡ true → (48 ≤ d) × (d ≤ 57)
digit-range d e = let both = and_parts _ _ e in (leb-true 48 d both.0, leb-true d 57 both.1)

last-digit : (ds : List ℕ) (d : ℕ) → list_all is_digit ds ≡ true → is_digit d ≡ true
    → list_all is_digit (ds ++ d ∷ []) ≡ true
last-digit [] d all last = and_from _ _ last refl
last-digit (e ∷ ds) d all last =
    let both = and_parts (is_digit e) (list_all is_digit ds) all in and_from (is_digit e)
    (list_all is_digit (ds ++ d ∷ [])) both.0 (last-digit ds d both.1 last)

digit-numeral : (n : ℕ) → n < 10 → IsNumeral n ((48 + n) ∷ [])
digit-numeral n h =
    record {
      first = 48 + n;
      others = [];
      is = refl;
      digits = and_from _ _ (is-digit (48 + n) (omega (arith, h)) (omega (arith, h))) refl;
      value = omega (arith, h);
    }

longer-value : (n v d : ℕ) → v ≡ n / 10 → d ≡ 48 + n % 10 → v * 10 + (d - 48) ≡ n
longer-value n v d e f = omega (arith, e, f)

longer-numeral : (n : ℕ) (ds : List ℕ) → 10 ≤ n → IsNumeral (n / 10) ds
    → IsNumeral n (ds ++ (48 + n % 10) ∷ [])
longer-numeral n ds h N = record {
  first = N.first;
  others = N.others ++ (48 + n % 10) ∷ [];
  is = ap (λ (xs : List ℕ). xs ++ (48 + n % 10) ∷ []) N.is;
  digits =
      last-digit (N.first ∷ N.others) (48 + n % 10) N.digits
      (is-digit (48 + n % 10) (omega arith) (omega arith));
  value =
      last-value 0 (N.first ∷ N.others) (48 + n % 10) ∙ longer-value n
      (value_of (N.first ∷ N.others)) (48 + n % 10) N.value refl;
}

pub numeral : (n : ℕ) → n < 2 ^ 64 → IsNumeral n (decimal n)
numeral n h = decimal_by_steps IsNumeral digit-numeral longer-numeral n h

pub digits-numeral : (n : ℕ) (ds : List ℕ) → IsNumeral n ds → is_digits ds ≡ true
digits-numeral n ds N = subst (λ (xs : List ℕ). is_digits xs ≡ true) (sym N.is) N.digits

pub value-numeral : (n : ℕ) (ds : List ℕ) → IsNumeral n ds → value_of ds ≡ n
value-numeral n ds N = ap value_of N.is ∙ N.value

no-minus : (d : ℕ) → is_digit d ≡ true → eqb d 45 ≡ false
no-minus d e =
    let range = digit-range d e in ne_eqb d 45 (λ (same : d ≡ 45). omega (arith, range.0, same))

pub positive-numeral : (n : ℕ) (ds : List ℕ) → IsNumeral n ds → is_negative ds ≡ false
positive-numeral n ds N = ap is_negative N.is ∙ no-minus N.first (and_parts _ _ N.digits).0

pub magnitude-numeral : (n : ℕ) (ds : List ℕ) → IsNumeral n ds → magnitude ds ≡ n
magnitude-numeral n ds N =
    ap magnitude N.is ∙ rw (no-minus N.first (and_parts _ _ N.digits).0) N.value

-- ---- bounds

pub literal-small : (n bits : ℕ) → bits ≤ 64 → n < 2 ^ bits → n < 2 ^ 64
literal-small n bits h l =
    let up : 2 ^ bits ≤ 2 ^ 64 = pow-le-pow_right {n = 2} (omega arith) {i = bits} {j = 64} h in
    omega (arith, l, up)

pub is-alignment : (n : ℕ) (ns : List ℕ) → Contains ns n → list_any (nat_eq n) ns ≡ true
is-alignment n ns (k, l, e) = list_any_at (nat_eq n) ns k n l (eq-eqb n (get_or ns k n) (sym e))

-- what passes a test that all numbers of a list pass
contained : (test : ℕ → Bool) (n : ℕ) (ns : List ℕ) → list_all test ns ≡ true
    → list_any (nat_eq n) ns ≡ true → test n ≡ true
contained test n [] all any = absurd (cc any)
contained test n (m ∷ ns) all any =
    let both = and_parts (test m) (list_all test ns) all in go both.0
    (λ any'. contained test n ns both.1 any') (eqb n m) refl any
  where
    go : test m ≡ true → (list_any (nat_eq n) ns ≡ true → test n ≡ true) → (b : Bool) → eqb n m ≡ b
        → (b || list_any (nat_eq n) ns) ≡ true → test n ≡ true
    go first others true is any' = subst (λ (k : ℕ). test k ≡ true) (sym (eqb-true n m is)) first
    go first others false is any' = others any'

pub alignment-small : (n : ℕ) → list_any (nat_eq n) alignments ≡ true → n < 2 ^ 64
alignment-small n e =
    ltb-true n (2 ^ 64) (contained (λ (k : ℕ). ltb k (2 ^ 64)) n alignments refl e)
