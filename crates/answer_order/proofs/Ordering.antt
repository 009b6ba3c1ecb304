-- The order of bits is that of numbers.
use Rattle.std.proofs.Common.{ℕ, zero, suc, ◌≡◌, ◌<◌, ◌≤◌, ◌+◌, ◌-◌, ◌*◌, ◌^◌, ◌⊎◌, inl, inr, Bool, true, false, List, [], ◌∷◌, ◌++◌, length, get_or, nat_le, refl, ap, subst, ◌∙◌, arith, pow_mono}
use Rattle.std.proofs.lemmas.Bool.{cases_Bool, cases_eq}
use Rattle.std.proofs.Math.Nat.{mul-le-mul_right, pow-succ'}
use Rattle.points.specs.Code.{number_of}
use Rattle.clause_search.specs.Outcome.{IsLess}
use Rattle.answer_order.specs.Fronts.{AreWidths, Fits, numbers_of, total}
use Rattle.answer_order.specs.Laws.{LeastDigitsAreLeastNumbers, NoDigitsAreNoNumbers}
use Rattle.answer_order.proofs.Binary.{digits, digits_of, power, le-true, le-false, numbers-digits, length-digits_of, fits-numbers, digits-numbers}

-- ---- the order of bits, from the start

abbrev Less : List Bool → List Bool → Type 0
Less [] bs = ⊥
Less (a ∷ as') [] = ⊥
Less (a ∷ as') (b ∷ bs) = ((a ≡ false) × (b ≡ true)) ⊎ ((a ≡ b) × Less as' bs)

less-front : (a b c d : List Bool) → Less a b → Less (a ++ c) (b ++ d)
less-front [] b c d h = absurd h
less-front (x ∷ xs) [] c d h = absurd h
less-front (x ∷ xs) (y ∷ ys) c d (inl h) = inl h
less-front (x ∷ xs) (y ∷ ys) c d (inr h) = inr (h.0, less-front xs ys c d h.1)

less-back : (a c d : List Bool) → Less c d → Less (a ++ c) (a ++ d)
less-back [] c d h = h
less-back (x ∷ xs) c d h = inr (refl, less-back xs c d h)

is_less : (n : ℕ) (a b : List Bool) → length a ≡ n → Less a b → IsLess n a b
is_less n [] b len h = absurd h
is_less n (x ∷ xs) [] len h = absurd h
is_less n (x ∷ xs) (y ∷ ys) len (inl h) = record { place = 0; within = omega arith; zero = h.0; one = h.1; before = λ i lt. absurd (omega arith) }
is_less n (x ∷ xs) (y ∷ ys) len (inr h) =
    let rest = is_less (length xs) xs ys refl h.1 in
    record { place = suc rest.place; within = omega (arith, rest.within); zero = rest.zero; one = rest.one; before = before rest.place rest.before }
  where
    before : (p : ℕ) → ((i : ℕ) → i < p → get_or xs i false ≡ get_or ys i false) → (i : ℕ) → i < suc p → get_or (x ∷ xs) i false ≡ get_or (y ∷ ys) i false
    before p f zero lt = h.0
    before p f (suc i) lt = f i (omega arith)

digits-less : (w x y : ℕ) → x < 2 ^ w → y < 2 ^ w → x < y → Less (digits w x) (digits w y)
digits-less zero x y lx ly lt = absurd (let p : 2 ^ 0 ≡ 1 = refl in omega arith)
digits-less (suc w) x y lx ly lt = elim (cases_Bool (nat_le (2 ^ w) x)) [
  | inl tx ↦ elim (cases_Bool (nat_le (2 ^ w) y)) [
    | inl ty ↦
        let ax = le-true (2 ^ w) x tx in let ay = le-true (2 ^ w) y ty in let p = power w in
        rw (tx, ty) (inr (refl, digits-less w (x - 2 ^ w) (y - 2 ^ w) (omega (arith, ax, p)) (omega (arith, ay, p)) (omega (arith, ax, ay))))
    | inr fy ↦ absurd (let ax = le-true (2 ^ w) x tx in let by = le-false (2 ^ w) y fy in omega (arith, ax, by))
  ]
  | inr fx ↦ elim (cases_Bool (nat_le (2 ^ w) y)) [
    | inl ty ↦ rw (fx, ty) (inl (refl, refl))
    | inr fy ↦ rw (fx, fy) (inr (refl, digits-less w x y (le-false (2 ^ w) x fx) (le-false (2 ^ w) y fy) lt))
  ]
]

-- ---- the order of lists of numbers

small : (w n : ℕ) → w ≤ 64 → n < 2 ^ w → n < 2 ^ 64
small w n le lt = let p : 2 ^ w ≤ 2 ^ 64 = pow_mono {i = w} {j = 64} le in omega arith

number-below : (ws ns : List ℕ) → AreWidths ws → Fits ws ns → number_of ns < (2 ^ 64) ^ length ns
unfolding number_of
number-below [] [] s h = let p : (2 ^ 64) ^ 0 ≡ 1 = refl in omega arith
number-below [] (n ∷ ns) s h = absurd h
number-below (w ∷ ws) [] s h = absurd h
number-below (w ∷ ws) (n ∷ ns) s h =
    let rest = number-below ws ns s.1 h.1 in
    let lt = small w n s.0 h.0 in
    let m : suc n * (2 ^ 64) ^ length ns ≤ 2 ^ 64 * (2 ^ 64) ^ length ns = mul-le-mul_right ((2 ^ 64) ^ length ns) lt in
    let p : (2 ^ 64) ^ suc (length ns) ≡ (2 ^ 64) * (2 ^ 64) ^ length ns = pow-succ' (2 ^ 64) (length ns) in
    omega (arith, m, rest, p)

split : (x y a b k : ℕ) → a < k → b < k → x * k + a < y * k + b → (x < y) ⊎ ((x ≡ y) × (a < b))
split x y a b k la lb h = elim (cases_eq x y) [
  | inl e ↦ let f : x * k ≡ y * k = ap (λ z. z * k) e in inr (e, omega (arith, f))
  | inr other ↦ elim (cases_Bool (nat_le (suc x) y)) [
    | inl t ↦ inl (le-true (suc x) y t)
    | inr f ↦
        let below : suc y ≤ x = let g = le-false (suc x) y f in omega (arith, g, other) in
        let m : suc y * k ≤ x * k = mul-le-mul_right k below in
        absurd (omega (arith, m))
  ]
]

same-length : (ws xs ys : List ℕ) → Fits ws xs → Fits ws ys → length xs ≡ length ys
same-length [] [] [] h g = refl
same-length [] (x ∷ xs) ys h g = absurd h
same-length [] [] (y ∷ ys) h g = absurd g
same-length (w ∷ ws) [] ys h g = absurd h
same-length (w ∷ ws) (x ∷ xs) [] h g = absurd g
same-length (w ∷ ws) (x ∷ xs) (y ∷ ys) h g = ap suc (same-length ws xs ys h.1 g.1)

numbers-less : (ws xs ys : List ℕ) → AreWidths ws → Fits ws xs → Fits ws ys → number_of xs < number_of ys → Less (digits_of ws xs) (digits_of ws ys)
unfolding number_of
numbers-less [] [] [] s h g lt = absurd (omega arith)
numbers-less [] (x ∷ xs) ys s h g lt = absurd h
numbers-less [] [] (y ∷ ys) s h g lt = absurd g
numbers-less (w ∷ ws) [] ys s h g lt = absurd h
numbers-less (w ∷ ws) (x ∷ xs) [] s h g lt = absurd g
numbers-less (w ∷ ws) (x ∷ xs) (y ∷ ys) s h g lt =
    let k = (2 ^ 64) ^ length ys in
    let len = same-length ws xs ys h.1 g.1 in
    let lx : number_of xs < k = subst (λ n. number_of xs < (2 ^ 64) ^ n) len (number-below ws xs s.1 h.1) in
    let ly = number-below ws ys s.1 g.1 in
    let there : x * k + number_of xs < y * k + number_of ys = subst (λ n. x * (2 ^ 64) ^ n + number_of xs < y * k + number_of ys) len lt in
    elim (split x y (number_of xs) (number_of ys) k lx ly there) [
      | inl less ↦ less-front (digits w x) (digits w y) (digits_of ws xs) (digits_of ws ys) (digits-less w x y h.0 g.0 less)
      | inr same ↦ rw same.0 (less-back (digits w y) (digits_of ws xs) (digits_of ws ys) (numbers-less ws xs ys s.1 h.1 g.1 same.1))
    ]

-- ---- answers

pub least_digits : LeastDigitsAreLeastNumbers
least_digits widths test bits s h = record {
  fits = fits-numbers widths bits h.long;
  passes = h.passes;
  least = λ other f lt. elim (cases_Bool (test other)) [
    | inl t ↦
        let less = subst (λ (zs : List Bool). Less (digits_of widths other) zs) (digits-numbers widths bits h.long) (numbers-less widths other (numbers_of widths bits) s f (fits-numbers widths bits h.long) lt) in
        let len = length-digits_of widths other f in
        absurd (h.least (digits_of widths other) len (ap test (numbers-digits widths other f) ∙ t) (is_less (total widths) (digits_of widths other) bits len less))
    | inr none ↦ none
  ];
}

pub no_digits : NoDigitsAreNoNumbers
no_digits widths test h front f = elim (cases_Bool (test front)) [
  | inl t ↦ absurd (h (digits_of widths front) (length-digits_of widths front f) (ap test (numbers-digits widths front f) ∙ t))
  | inr none ↦ none
]
