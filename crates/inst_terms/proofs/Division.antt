-- Division of numbers in two's complement by their magnitudes.
use Rattle.inst_terms.proofs.Common.{ℕ, zero, suc, ◌≡◌, ◌<◌, ◌≤◌, ◌+◌, ◌-◌, ◌/◌, ◌%◌, ◌^◌, Bool, true, false, not, cond, ◌&&◌, ◌||◌, nat_eq, pos, neg_ℤ, inl, inr, refl, ap, sym, ◌∙◌, arith, pow_pos, int_div, int_rem, cases_lt, lt-ltb, le-ltb, le-leb, lt-leb, mod-eq_of_lt, mod_self, div-le_self, mod-le, SignedDiv, SignedRem, Num, quotient, remainder, signed_of, wrapped, is_negative, have_two_signs, is_zero_or_poison, has_no_quotient, is_undefined, value_from, magnitude, negated_if, row_of}
use Rattle.std.specs.Ordering.{int_eq}
use Rattle.std.proofs.Math.Dec.{eqb-suc-zero}
use Rattle.inst_terms.proofs.Rows.{from_is-if, some-divisor}
use Rattle.inst_terms.proofs.Halves.{halves, signed_low, signed_high}
use Rattle.inst_terms.proofs.Additions.{by-halves}

-- ---- magnitudes

magnitude-low : (n a : ℕ) → a < 2 ^ (n - 1) → magnitude n a ≡ a
magnitude-low n a h = rw (lt-leb (2 ^ (n - 1)) a h) refl

magnitude-high : (n a : ℕ) → 1 ≤ n → 2 ^ (n - 1) ≤ a → a < 2 ^ n → magnitude n a ≡ suc (2 ^ n - a - 1)
magnitude-high n a low h below =
    let positive = pow_pos (n - 1) in
    let e : (0 + (2 ^ n - a)) % 2 ^ n ≡ 0 + (2 ^ n - a) = mod-eq_of_lt (omega (arith, h, below, positive)) in
    rw (le-leb (2 ^ (n - 1)) a h) (e ∙ omega (arith, below))

opposite-wrapped : (n q : ℕ) → q < 2 ^ n → (0 + (2 ^ n - q)) % 2 ^ n ≡ wrapped n (neg_ℤ (pos q))
unfolding wrapped
opposite-wrapped n zero h = let e : 0 + (2 ^ n - 0) ≡ 2 ^ n = omega arith in rw (e, mod_self (2 ^ n)) (sym (mod-eq_of_lt h))
opposite-wrapped n (suc q) h =
    let here : (0 + (2 ^ n - suc q)) % 2 ^ n ≡ 0 + (2 ^ n - suc q) = mod-eq_of_lt (omega (arith, pow_pos n)) in
    let small : q % 2 ^ n ≡ q = mod-eq_of_lt (omega (arith, h)) in
    here ∙ omega (arith, small, h)

natural-wrapped : (n q : ℕ) → q < 2 ^ n → q ≡ wrapped n (pos q)
unfolding wrapped
natural-wrapped n q h = sym (mod-eq_of_lt h)

some-magnitude : (n b : ℕ) → 1 ≤ n → b < 2 ^ n → nat_eq b 0 ≡ false → nat_eq (magnitude n b) 0 ≡ false
some-magnitude n b low below some = elim (cases_lt b (2 ^ (n - 1))) as (λ _. nat_eq (magnitude n b) 0 ≡ false) [
  | inl less ↦ ap (λ k. nat_eq k 0) (magnitude-low n b less) ∙ some
  | inr more ↦ ap (λ k. nat_eq k 0) (magnitude-high n b low more below) ∙ eqb-suc-zero (2 ^ n - b - 1)
]

-- ---- quotients

two-signs : (n a b : ℕ) (x y : Bool) → is_negative n a ≡ x → is_negative n b ≡ y → have_two_signs n a b ≡ ((x && not y) || (not x && y))
two-signs n a b x y e f = rw (e, f) refl

quotient-number : (n a b : ℕ) → 1 ≤ n → a < 2 ^ n → b < 2 ^ n → negated_if n (have_two_signs n a b) (magnitude n a / magnitude n b) ≡ wrapped n (int_div (signed_of n a) (signed_of n b))
quotient-number n a b low ba bb =
    let half = halves n low in
    let positive = pow_pos (n - 1) in
    by-halves n a b (negated_if n (have_two_signs n a b) (magnitude n a / magnitude n b) ≡ wrapped n (int_div (signed_of n a) (signed_of n b)))
    (λ la lb.
    rw (two-signs n a b false false (lt-leb (2 ^ (n - 1)) a la) (lt-leb (2 ^ (n - 1)) b lb), magnitude-low n a la, magnitude-low n b lb, signed_low n a la, signed_low n b lb)
    (natural-wrapped n (a / b) (omega (arith, div-le_self a b, ba))))
    (λ la hb.
    let k = 2 ^ n - b - 1 in
    rw (two-signs n a b false true (lt-leb (2 ^ (n - 1)) a la) (le-leb (2 ^ (n - 1)) b hb), magnitude-low n a la, magnitude-high n b low hb bb, signed_low n a la, signed_high n b hb bb)
    (opposite-wrapped n (a / suc k) (omega (arith, div-le_self a (suc k), ba))))
    (λ ha lb.
    let k = 2 ^ n - a - 1 in
    rw (two-signs n a b true false (le-leb (2 ^ (n - 1)) a ha) (lt-leb (2 ^ (n - 1)) b lb), magnitude-high n a low ha ba, magnitude-low n b lb, signed_high n a ha ba, signed_low n b lb)
    (opposite-wrapped n (suc k / b) (omega (arith, div-le_self (suc k) b, half, ha, ba, positive))))
    (λ ha hb.
    let j = 2 ^ n - a - 1 in
    let k = 2 ^ n - b - 1 in
    rw (two-signs n a b true true (le-leb (2 ^ (n - 1)) a ha) (le-leb (2 ^ (n - 1)) b hb), magnitude-high n a low ha ba, magnitude-high n b low hb bb, signed_high n a ha ba, signed_high n b hb bb)
    (natural-wrapped n (suc j / suc k) (omega (arith, div-le_self (suc j) (suc k), half, ha, ba, positive))))

-- ---- remainders

natural-zero : (r : ℕ) → nat_eq r 0 ≡ int_eq (pos r) (pos 0)
natural-zero zero = refl
natural-zero (suc r) = rw (eqb-suc-zero r, le-ltb (suc r) 0 (omega arith), lt-ltb 0 (suc r) (omega arith)) refl

opposite-zero : (r : ℕ) → nat_eq r 0 ≡ int_eq (neg_ℤ (pos r)) (pos 0)
opposite-zero zero = refl
opposite-zero (suc r) = rw (eqb-suc-zero r) refl

remainder-zero : (n a b : ℕ) → 1 ≤ n → a < 2 ^ n → b < 2 ^ n → nat_eq (magnitude n a % magnitude n b) 0 ≡ int_eq (int_rem (signed_of n a) (signed_of n b)) (pos 0)
remainder-zero n a b low ba bb =
    by-halves n a b (nat_eq (magnitude n a % magnitude n b) 0 ≡ int_eq (int_rem (signed_of n a) (signed_of n b)) (pos 0))
    (λ la lb. rw (magnitude-low n a la, magnitude-low n b lb, signed_low n a la, signed_low n b lb) (natural-zero (a % b)))
    (λ la hb. rw (magnitude-low n a la, magnitude-high n b low hb bb, signed_low n a la, signed_high n b hb bb) (natural-zero (a % suc (2 ^ n - b - 1))))
    (λ ha lb. rw (magnitude-high n a low ha ba, magnitude-low n b lb, signed_high n a ha ba, signed_low n b lb) (opposite-zero (suc (2 ^ n - a - 1) % b)))
    (λ ha hb. rw (magnitude-high n a low ha ba, magnitude-high n b low hb bb, signed_high n a ha ba, signed_high n b hb bb) (opposite-zero (suc (2 ^ n - a - 1) % suc (2 ^ n - b - 1))))

remainder-number : (n a b : ℕ) → 1 ≤ n → a < 2 ^ n → b < 2 ^ n → negated_if n (is_negative n a) (magnitude n a % magnitude n b) ≡ wrapped n (int_rem (signed_of n a) (signed_of n b))
remainder-number n a b low ba bb =
    let half = halves n low in
    let positive = pow_pos (n - 1) in
    by-halves n a b (negated_if n (is_negative n a) (magnitude n a % magnitude n b) ≡ wrapped n (int_rem (signed_of n a) (signed_of n b)))
    (λ la lb.
    rw (magnitude-low n a la, magnitude-low n b lb, lt-leb (2 ^ (n - 1)) a la, signed_low n a la, signed_low n b lb) (natural-wrapped n (a % b) (omega (arith, mod-le a b, ba))))
    (λ la hb.
    let k = 2 ^ n - b - 1 in
    rw (magnitude-low n a la, magnitude-high n b low hb bb, lt-leb (2 ^ (n - 1)) a la, signed_low n a la, signed_high n b hb bb) (natural-wrapped n (a % suc k) (omega (arith, mod-le a (suc k), ba))))
    (λ ha lb.
    let j = 2 ^ n - a - 1 in
    rw (magnitude-high n a low ha ba, magnitude-low n b lb, le-leb (2 ^ (n - 1)) a ha, signed_high n a ha ba, signed_low n b lb)
    (opposite-wrapped n (suc j % b) (omega (arith, mod-le (suc j) b, half, ha, ba, positive))))
    (λ ha hb.
    let j = 2 ^ n - a - 1 in
    let k = 2 ^ n - b - 1 in
    rw (magnitude-high n a low ha ba, magnitude-high n b low hb bb, le-leb (2 ^ (n - 1)) a ha, signed_high n a ha ba, signed_high n b hb bb)
    (opposite-wrapped n (suc j % suc k) (omega (arith, mod-le (suc j) (suc k), half, ha, ba, positive))))

-- ---- the rows

or-first : (x y : Bool) → (x || y) ≡ false → x ≡ false
or-first true y e = absurd (let wrong : ⊥ = cc in wrong)
or-first false y e = refl

divisor-magnitude : (n a b : ℕ) → 1 ≤ n → b < 2 ^ n → has_no_quotient n (Num a) (Num b) ≡ false → nat_eq (magnitude n b) 0 ≡ false
divisor-magnitude n a b low bb e = some-magnitude n b low bb (some-divisor n b bb (or-first (is_zero_or_poison n (Num b)) _ e))

pub signed_quotient_is : (exact : Bool) (n a b : ℕ) → 1 ≤ n → a < 2 ^ n → b < 2 ^ n → is_undefined (SignedDiv exact) n (Num a) (Num b) ≡ false
    → value_from (exact && not (nat_eq (remainder (magnitude n a) (magnitude n b)) 0)) (negated_if n (have_two_signs n a b) (quotient n (magnitude n a) (magnitude n b))) ≡ row_of (SignedDiv exact) n a b
signed_quotient_is exact n a b low ba bb e =
    let some = divisor-magnitude n a b low bb e in
    let rest : remainder (magnitude n a) (magnitude n b) ≡ magnitude n a % magnitude n b = ap (λ (t : Bool). cond t (magnitude n a) (magnitude n a % magnitude n b)) some in
    let size : quotient n (magnitude n a) (magnitude n b) ≡ magnitude n a / magnitude n b = ap (λ (t : Bool). cond t (2 ^ n - 1) (magnitude n a / magnitude n b)) some in
    let test : not (nat_eq (remainder (magnitude n a) (magnitude n b)) 0) ≡ not (int_eq (int_rem (signed_of n a) (signed_of n b)) (pos 0)) =
    ap (λ k. not (nat_eq k 0)) rest ∙ ap not (remainder-zero n a b low ba bb) in
    let number : negated_if n (have_two_signs n a b) (quotient n (magnitude n a) (magnitude n b)) ≡ wrapped n (int_div (signed_of n a) (signed_of n b)) =
    ap (negated_if n (have_two_signs n a b)) size ∙ quotient-number n a b low ba bb in
    ap (λ t. value_from (exact && t) (negated_if n (have_two_signs n a b) (quotient n (magnitude n a) (magnitude n b)))) test
    ∙ (ap (value_from (exact && not (int_eq (int_rem (signed_of n a) (signed_of n b)) (pos 0)))) number
    ∙ from_is-if (exact && not (int_eq (int_rem (signed_of n a) (signed_of n b)) (pos 0))) (wrapped n (int_div (signed_of n a) (signed_of n b))))

pub signed_remainder_is : (n a b : ℕ) → 1 ≤ n → a < 2 ^ n → b < 2 ^ n → is_undefined SignedRem n (Num a) (Num b) ≡ false
    → value_from false (negated_if n (is_negative n a) (remainder (magnitude n a) (magnitude n b))) ≡ row_of SignedRem n a b
signed_remainder_is n a b low ba bb e =
    let some = divisor-magnitude n a b low bb e in
    let rest : remainder (magnitude n a) (magnitude n b) ≡ magnitude n a % magnitude n b = ap (λ (t : Bool). cond t (magnitude n a) (magnitude n a % magnitude n b)) some in
    ap Num (ap (negated_if n (is_negative n a)) rest ∙ remainder-number n a b low ba bb)
