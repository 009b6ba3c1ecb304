-- Numbers with fewer bits, and whether they are the same.
use Rattle.inst_terms.proofs.Common.{ℕ, zero, suc, ◌≡◌, ◌≢◌, ◌<◌, ◌≤◌, ◌+◌, ◌-◌, ◌*◌, ◌/◌, ◌%◌, ◌^◌, not, nat_eq, nat_le, pos, inl, inr, refl, ap, sym, ◌∙◌, arith, pow-add, pow_pos, pow_mono, subst, cases_lt, le-leb, lt-leb, eq-eqb, ne_eqb, mod_below, mod-mul-add, shr_split, shr_below, mod-eq_of_lt, div-eq_of_lt, extended_signed, signed_of, is_outside_signed, is_outside_unsigned}
use Rattle.inst_terms.proofs.Halves.{halves, signed_low, signed_high, outside-pos, outside-neg}
use Rattle.inst_terms.proofs.Additions.{outside-natural}

-- a test that fails exactly where the number is least or more
pub apart-is : (x y m k : ℕ) → (k < m → x ≡ y) → (m ≤ k → x ≢ y) → not (nat_eq x y) ≡ nat_le m k
apart-is x y m k same apart = elim (cases_lt k m) as (λ _. not (nat_eq x y) ≡ nat_le m k) [
  | inl less ↦ rw (eq-eqb x y (same less), lt-leb m k less) refl
  | inr more ↦ rw (ne_eqb x y (apart more), le-leb m k more) refl
]

pub powers : (m w : ℕ) → m ≤ w → 2 ^ w ≡ 2 ^ (w - m) * 2 ^ m
powers m w le = let e : w ≡ (w - m) + m = omega (arith, le) in ap (λ k. 2 ^ k) e ∙ pow-add 2 (w - m) m

-- ---- without a sign

high-digits : (m w x : ℕ) → m ≤ w → x < 2 ^ w → not (nat_eq (x / 2 ^ m % 2 ^ (w - m)) 0) ≡ nat_le (2 ^ m) x
high-digits m w x le lt =
    let e : w ≡ (w - m) + m = omega (arith, le) in
    let small : x / 2 ^ m < 2 ^ (w - m) = shr_below x (w - m) m (subst (λ k. x < 2 ^ k) e lt) in
    let whole : x / 2 ^ m % 2 ^ (w - m) ≡ x / 2 ^ m = mod-eq_of_lt small in
    let split = shr_split x m in
    let rest = mod_below x (2 ^ m) (pow_pos m) in
    ap (λ k. not (nat_eq k 0)) whole
    ∙ apart-is (x / 2 ^ m) 0 (2 ^ m) x (λ less. div-eq_of_lt less) (λ more zero_is.
    let none : x / 2 ^ m * 2 ^ m ≡ 0 * 2 ^ m = ap (λ k. k * 2 ^ m) zero_is in
    omega (arith, split, rest, more, none))

pub outside-unsigned : (m w x : ℕ) → m ≤ w → x < 2 ^ w → not (nat_eq (x / 2 ^ m % 2 ^ (w - m)) 0) ≡ is_outside_unsigned m (pos x)
outside-unsigned m w x le lt = high-digits m w x le lt ∙ sym (outside-natural m x)

-- ---- in two's complement

-- the low bits, where those are all that there is before them
low-part : (q m r : ℕ) → r < 2 ^ m → (q * 2 ^ m + r) % 2 ^ m ≡ r
low-part q m r lt = mod-mul-add q (2 ^ m) r lt

pub extended-low : (m w r : ℕ) → r < 2 ^ (m - 1) → extended_signed m w r ≡ r
extended-low m w r h = rw (lt-leb (2 ^ (m - 1)) r h) refl

pub extended-high : (m w r : ℕ) → 2 ^ (m - 1) ≤ r → extended_signed m w r ≡ 2 ^ w - 2 ^ m + r
extended-high m w r h = rw (le-leb (2 ^ (m - 1)) r h) refl

pub wider : (m w : ℕ) → m ≤ w → 2 ^ m ≤ 2 ^ w
wider m w le = pow_mono {i = m} {j = w} le

-- a number that has room is its low bits with copies of their sign before them
natural-same : (m w x : ℕ) → 1 ≤ m → x < 2 ^ (m - 1) → extended_signed m w (x % 2 ^ m) ≡ x
natural-same m w x low h =
    let half = halves m low in
    let whole : x % 2 ^ m ≡ x = mod-eq_of_lt (omega (arith, half, h)) in
    ap (extended_signed m w) whole ∙ extended-low m w x h

-- one that is too large for that isn't: with a leading bit 0 it is below the half, and else not below the wider width's other half
natural-apart : (m w x : ℕ) → 1 ≤ m → m ≤ w → 2 ^ (m - 1) ≤ x → x < 2 ^ (w - 1) → extended_signed m w (x % 2 ^ m) ≢ x
natural-apart m w x low le h small e =
    let half = halves m low in
    let half' = halves w (omega (arith, low, le)) in
    let wide : 2 ^ (m - 1) ≤ 2 ^ (w - 1) = wider (m - 1) (w - 1) (omega (arith, low, le)) in
    let r = x % 2 ^ m in
    let rest : r < 2 ^ m = mod_below x (2 ^ m) (pow_pos m) in
    elim (cases_lt r (2 ^ (m - 1))) as (λ _. ⊥) [
      | inl less ↦ let is = extended-low m w r less in omega (arith, is, e, h, less)
      | inr more ↦ let is = extended-high m w r more in omega (arith, is, e, small, more, half, half', wide)
    ]

-- the opposite of a number k + 1, at the wider width
negative-low : (m w k : ℕ) → 1 ≤ m → m ≤ w → k < 2 ^ m → (2 ^ w - 1 - k) % 2 ^ m ≡ 2 ^ m - 1 - k
negative-low m w k low le h =
    let e = powers m w le in
    let more : 1 ≤ 2 ^ (w - m) = pow_pos (w - m) in
    let sum : 2 ^ w - 1 - k ≡ (2 ^ (w - m) - 1) * 2 ^ m + (2 ^ m - 1 - k) = less-one (2 ^ w) (2 ^ (w - m)) (2 ^ m) k more e h in
    ap (λ x. x % 2 ^ m) sum ∙ low-part (2 ^ (w - m) - 1) m (2 ^ m - 1 - k) (omega (arith, pow_pos m))
  where
    less-one : (t q p k : ℕ) → 1 ≤ q → t ≡ q * p → k < p → t - 1 - k ≡ (q - 1) * p + (p - 1 - k)
    less-one t zero p k more e h = absurd (omega (arith, more))
    less-one t (suc q) p k more e h =
        let one : suc q - 1 ≡ q = omega arith in
        let times : suc q * p ≡ q * p + p = omega arith in
        rw one (omega (arith, e, times, h))

negative-same : (m w k : ℕ) → 1 ≤ m → m ≤ w → k < 2 ^ (m - 1) → extended_signed m w ((2 ^ w - 1 - k) % 2 ^ m) ≡ 2 ^ w - 1 - k
negative-same m w k low le h =
    let half = halves m low in
    let wide = wider m w le in
    let is = negative-low m w k low le (omega (arith, half, h)) in
    ap (extended_signed m w) is ∙ (extended-high m w (2 ^ m - 1 - k) (omega (arith, half, h)) ∙ omega (arith, half, h, wide))

negative-apart : (m w k : ℕ) → 1 ≤ m → m ≤ w → 2 ^ (m - 1) ≤ k → k < 2 ^ (w - 1) → extended_signed m w ((2 ^ w - 1 - k) % 2 ^ m) ≢ 2 ^ w - 1 - k
negative-apart m w k low le h small e =
    let half = halves m low in
    let half' = halves w (omega (arith, low, le)) in
    let wide : 2 ^ (m - 1) ≤ 2 ^ (w - 1) = wider (m - 1) (w - 1) (omega (arith, low, le)) in
    let r = (2 ^ w - 1 - k) % 2 ^ m in
    let rest : r < 2 ^ m = mod_below (2 ^ w - 1 - k) (2 ^ m) (pow_pos m) in
    elim (cases_lt r (2 ^ (m - 1))) as (λ _. ⊥) [
      | inl less ↦ let is = extended-low m w r less in omega (arith, is, e, h, less, small, half', wide)
      | inr more ↦ let is = extended-high m w r more in omega (arith, is, e, h, small, more, half, half', wide)
    ]

-- whether the number of w bits is that of its low bits says whether it has room there
pub outside-signed : (m w x : ℕ) → 1 ≤ m → m ≤ w → x < 2 ^ w → not (nat_eq (extended_signed m w (x % 2 ^ m)) x) ≡ is_outside_signed m (signed_of w x)
outside-signed m w x low le lt =
    let half = halves w (omega (arith, low, le)) in
    elim (cases_lt x (2 ^ (w - 1))) as (λ _. not (nat_eq (extended_signed m w (x % 2 ^ m)) x) ≡ is_outside_signed m (signed_of w x)) [
      | inl less ↦
          apart-is (extended_signed m w (x % 2 ^ m)) x (2 ^ (m - 1)) x (λ in_low. natural-same m w x low in_low) (λ above. natural-apart m w x low le above less)
          ∙ sym (ap (is_outside_signed m) (signed_low w x less) ∙ outside-pos m x)
      | inr more ↦
          let k = 2 ^ w - x - 1 in
          let is : x ≡ 2 ^ w - 1 - k = omega (arith, lt) in
          let small : k < 2 ^ (w - 1) = omega (arith, half, more) in
          apart-is (extended_signed m w (x % 2 ^ m)) x (2 ^ (m - 1)) k (λ in_low. subst (λ y. extended_signed m w (y % 2 ^ m) ≡ y) (sym is) (negative-same m w k low le in_low)) (λ above. subst (λ y. extended_signed m w (y % 2 ^ m) ≢ y) (sym is) (negative-apart m w k low le above small))
          ∙ sym (ap (is_outside_signed m) (signed_high w x more lt) ∙ outside-neg m k)
    ]
