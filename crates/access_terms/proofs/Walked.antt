-- Sums of an offset and scaled indices, in 64 bits and exact.
use Rattle.access_terms.proofs.Common.{ℕ, zero, suc, ◌≡◌, ◌<◌, ◌≤◌, ◌+◌, ◌-◌, ◌*◌, ◌%◌, ◌^◌, not, nat_eq, nat_lt, ℤ, pos, negsuc, neg_ℤ, ◌+ℤ◌, inl, inr, refl, ap, sym, ◌∙◌, arith, pow-add, pow_pos, pow_mono, subst, ◌*ℤ◌, int_lt, cases_lt, lt-ltb, le-ltb, le-leb, lt-leb, ne_eqb, mod_below, mul-le, extended_signed, signed_of, wrapped, is_outside, wrapped-euclid, walked_sum}
use Rattle.std.specs.Ordering.{int_eq}
use Rattle.std.proofs.lemmas.Int.{ints, int_rem_euclid_is}
use Rattle.std.proofs.Math.Nat.{mod-add-mod, mod-eq_of_lt}
use Rattle.std.proofs.Math.Pow.{mod-mod-pow}

-- ---- two's complement

pub halves : (n : ℕ) → 1 ≤ n → 2 ^ n ≡ 2 * 2 ^ (n - 1)
halves n low = let e : n ≡ suc (n - 1) = omega (arith, low) in ap (λ k. 2 ^ k) e ∙ omega arith

pub signed_low : (n a : ℕ) → a < 2 ^ (n - 1) → signed_of n a ≡ pos a
unfolding signed_of
signed_low n a h = rw (lt-ltb a (2 ^ (n - 1)) h) refl

pub signed_high : (n a : ℕ) → 2 ^ (n - 1) ≤ a → a < 2 ^ n → signed_of n a ≡ negsuc (2 ^ n - a - 1)
unfolding signed_of
signed_high n a h below = rw (le-ltb a (2 ^ (n - 1)) h) (omega (arith, ints, below))

extended-low : (m w r : ℕ) → r < 2 ^ (m - 1) → extended_signed m w r ≡ r
extended-low m w r h = rw (lt-leb (2 ^ (m - 1)) r h) refl

extended-high : (m w r : ℕ) → 2 ^ (m - 1) ≤ r → extended_signed m w r ≡ 2 ^ w - 2 ^ m + r
extended-high m w r h = rw (le-leb (2 ^ (m - 1)) r h) refl

wider : (m w : ℕ) → m ≤ w → 2 ^ m ≤ 2 ^ w
wider m w le = pow_mono {i = m} {j = w} le

times-of : (x d s t : ℕ) → t ≡ d + x → x * s + d * s ≡ s * t
times-of x d s t e = rw e (omega arith)

times : (t d s : ℕ) → d ≤ t → (t - d) * s + d * s ≡ s * t
times t d s le = times-of (t - d) d s t (omega (arith, le))

-- an extended number times the scale is the exact product and a number of wholes
record Extended (n width number scale : ℕ) : Type 0 where
  pub wholes : ℕ
  pub is : (signed_of n number *ℤ pos scale) +ℤ pos (wholes * 2 ^ width) ≡ pos (extended_signed n width number * scale)

less-opposite : (c s t : ℕ) (p : ℕ) → p + c * s ≡ s * t → neg_ℤ (pos (c * s)) +ℤ pos (s * t) ≡ pos p
less-opposite c s t p e = omega (arith, ints, e)

extended : (n width number scale : ℕ) → 1 ≤ n → n ≤ width → number < 2 ^ n → Extended n width number scale
extended n width number scale low le below = elim (cases_lt number (2 ^ (n - 1))) as (λ _. Extended n width number scale) [
  | inl less ↦ record {
    wholes = 0;
    is = rw (signed_low n number less, extended-low n width number less) (omega (arith, ints));
  }
  | inr more ↦
      let wide = wider n width le in
      let d = 2 ^ n - number in
      let sized : suc (2 ^ n - number - 1) ≡ d = omega (arith, below) in
      let part : 2 ^ width - 2 ^ n + number ≡ 2 ^ width - d = omega (arith, wide, below) in
      let exact : negsuc (2 ^ n - number - 1) *ℤ pos scale ≡ neg_ℤ (pos (d * scale)) = ap (λ k. neg_ℤ (pos (k * scale))) sized in
      record {
        wholes = scale;
        is = rw (signed_high n number more below, extended-high n width number more, part, exact)
            (less-opposite d scale (2 ^ width) ((2 ^ width - d) * scale) (times (2 ^ width) d scale (omega (arith, wide))));
      }
]

-- ---- wrapping

wrapped-wholes : (n : ℕ) (z : ℤ) (k m : ℕ) → z +ℤ pos (k * 2 ^ n) ≡ pos m → wrapped n z ≡ m % 2 ^ n
wrapped-wholes n z k m e =
    let same : pos (wrapped n z) ≡ pos (m % 2 ^ n) = sym (wrapped-euclid n z) ∙ int_rem_euclid_is z (pos (2 ^ n)) (2 ^ n) k m (pow_pos n) refl e in
    omega (arith, ints, same)

add-after : (a : ℕ) (y : ℤ) (k m : ℕ) → y +ℤ pos k ≡ pos m → (pos a +ℤ y) +ℤ pos k ≡ pos (a + m)
add-after a y k m e = omega (arith, ints, e)

split-power : (k m n : ℕ) → n ≤ m → k * 2 ^ m ≡ (k * 2 ^ (m - n)) * 2 ^ n
split-power k m n le =
    let e : m ≡ (m - n) + n = omega (arith, le) in
    ap (λ i. k * 2 ^ i) e ∙ (ap (λ i. k * i) (pow-add 2 (m - n) n) ∙ regroup k (2 ^ (m - n)) (2 ^ n))
  where
    regroup : (a b c : ℕ) → a * (b * c) ≡ (a * b) * c
    regroup a b c = omega arith

mod-cut : (x m n : ℕ) → n ≤ m → x % 2 ^ m % 2 ^ n ≡ x % 2 ^ n
mod-cut x m n le =
    let e : m ≡ (m - n) + n = omega (arith, le) in
    ap (λ k. x % 2 ^ k % 2 ^ n) e ∙ mod-mod-pow x (m - n) n

add-mod : (a b m : ℕ) → (a + b % m) % m ≡ (a + b) % m
add-mod a b m =
    let e : a + b % m ≡ b % m + a = omega arith in
    let f : b + a ≡ a + b = omega arith in
    ap (λ k. k % m) e ∙ (mod-add-mod b m a ∙ ap (λ k. k % m) f)

-- the low bits of the sum are the exact sum wrapped
pub walked-low : (width bits n offset number scale : ℕ) → 1 ≤ n → n ≤ width → bits ≤ width → number < 2 ^ n
    → walked_sum width n offset number scale % 2 ^ bits ≡ wrapped bits (pos offset +ℤ (signed_of n number *ℤ pos scale))
unfolding walked_sum
walked-low width bits n offset number scale low le most below =
    let x = extended_signed n width number * scale in
    let e = extended n width number scale low le below in
    let split = split-power e.wholes width bits most in
    let exact : (signed_of n number *ℤ pos scale) +ℤ pos ((e.wholes * 2 ^ (width - bits)) * 2 ^ bits) ≡ pos x = ap (λ k. (signed_of n number *ℤ pos scale) +ℤ pos k) (sym split) ∙ e.is in
    ap (λ k. k % 2 ^ bits) (add-mod offset x (2 ^ width)) ∙ (mod-cut (offset + x) width bits most
    ∙ sym (wrapped-wholes bits (pos offset +ℤ (signed_of n number *ℤ pos scale)) (e.wholes * 2 ^ (width - bits)) (offset + x) (add-after offset (signed_of n number *ℤ pos scale) _ x exact)))

pub walked-below : (width n offset number scale : ℕ) → walked_sum width n offset number scale < 2 ^ width
unfolding walked_sum
walked-below width n offset number scale = mod_below (offset + (extended_signed n width number * scale) % 2 ^ width) (2 ^ width) (pow_pos width)

pub walked-whole : (n offset number scale : ℕ) → walked_sum 64 n offset number scale ≡ walked_sum 64 n offset number scale % 2 ^ 64
walked-whole n offset number scale = sym (mod-eq_of_lt (walked-below 64 n offset number scale))

-- the sum is the exact one wrapped
pub walked-is : (width n offset number scale : ℕ) → 1 ≤ n → n ≤ width → number < 2 ^ n → walked_sum width n offset number scale ≡ wrapped width (pos offset +ℤ (signed_of n number *ℤ pos scale))
walked-is width n offset number scale low le below =
    sym (mod-eq_of_lt (walked-below width n offset number scale)) ∙ walked-low width width n offset number scale low le (omega arith) below

-- ---- outside

-- an exact sum is small
data Small (z : ℤ) : Type 0 where
  Natural : (a : ℕ) → z ≡ pos a → a < 2 ^ 96 → Small z
  Negative : (a : ℕ) → z ≡ negsuc a → a < 2 ^ 96 → Small z

less-small : (a b : ℕ) → a < 2 ^ 64 → b ≤ 2 ^ 95 → Small (pos a +ℤ neg_ℤ (pos b))
less-small a b la lb = elim (cases_lt a b) as (λ _. Small (pos a +ℤ neg_ℤ (pos b))) [
  | inl less ↦ let e : pos a +ℤ neg_ℤ (pos b) ≡ negsuc (b - a - 1) = omega (arith, ints, less) in Negative (b - a - 1) e (omega (arith, lb))
  | inr more ↦ let e : pos a +ℤ neg_ℤ (pos b) ≡ pos (a - b) = omega (arith, ints, more) in Natural (a - b) e (omega (arith, la))
]

sum-small : (n offset number scale : ℕ) → 1 ≤ n → n ≤ 64 → number < 2 ^ n → offset < 2 ^ 64 → scale < 2 ^ 32 → Small (pos offset +ℤ (signed_of n number *ℤ pos scale))
sum-small n offset number scale low most below small scaled =
    let half = halves n low in
    let wide : 2 ^ (n - 1) ≤ 2 ^ 63 = wider (n - 1) 63 (omega (arith, most)) in
    elim (cases_lt number (2 ^ (n - 1))) as (λ _. Small (pos offset +ℤ (signed_of n number *ℤ pos scale))) [
      | inl less ↦
          let fits : number * scale ≤ 2 ^ 63 * 2 ^ 32 = mul-le number scale (2 ^ 63) (2 ^ 32) (omega (arith, less, wide)) (omega (arith, scaled)) in
          rw (signed_low n number less) (Natural (offset + number * scale) refl (omega (arith, small, fits)))
      | inr more ↦
          let d = 2 ^ n - number in
          let sized : suc (2 ^ n - number - 1) ≡ d = omega (arith, below) in
          let fits : d * scale ≤ 2 ^ 63 * 2 ^ 32 = mul-le d scale (2 ^ 63) (2 ^ 32) (omega (arith, more, half, wide)) (omega (arith, scaled)) in
          let exact : negsuc (2 ^ n - number - 1) *ℤ pos scale ≡ neg_ℤ (pos (d * scale)) = ap (λ k. neg_ℤ (pos (k * scale))) sized in
          rw (signed_high n number more below, exact) (less-small offset (d * scale) small (omega (arith, fits)))
    ]

outside-natural : (size a : ℕ) → a < 2 ^ 96 → nat_lt size (wrapped 98 (pos a)) ≡ is_outside size (pos a)
unfolding wrapped
outside-natural size a h =
    let whole : a % 2 ^ 98 ≡ a = mod-eq_of_lt (omega (arith, h)) in
    rw (whole, le-ltb a 0 (omega arith)) refl

outside-negative : (size a : ℕ) → size < 2 ^ 64 → a < 2 ^ 96 → nat_lt size (wrapped 98 (negsuc a)) ≡ is_outside size (negsuc a)
unfolding wrapped
outside-negative size a low h =
    let whole : a % 2 ^ 98 ≡ a = mod-eq_of_lt (omega (arith, h)) in
    rw whole (lt-ltb size (2 ^ 98 - 1 - a) (omega (arith, low, h)))

outside-of : (size : ℕ) (z : ℤ) → size < 2 ^ 64 → Small z → nat_lt size (wrapped 98 z) ≡ is_outside size z
outside-of size z low (Natural a e h) = subst (λ y. nat_lt size (wrapped 98 y) ≡ is_outside size y) (sym e) (outside-natural size a h)
outside-of size z low (Negative a e h) = subst (λ y. nat_lt size (wrapped 98 y) ≡ is_outside size y) (sym e) (outside-negative size a low h)

pub walked-outside : (size n offset number scale : ℕ) → 1 ≤ n → n ≤ 64 → number < 2 ^ n → offset < 2 ^ 64 → scale < 2 ^ 32 → size < 2 ^ 64
    → nat_lt size (walked_sum 98 n offset number scale) ≡ is_outside size (pos offset +ℤ (signed_of n number *ℤ pos scale))
walked-outside size n offset number scale low most below small scaled sized =
    ap (nat_lt size) (walked-is 98 n offset number scale low (omega (arith, most)) below) ∙ outside-of size _ sized (sum-small n offset number scale low most below small scaled)

-- ---- tests of one number

int-zero : (a : ℕ) → int_eq (pos a) (pos 0) ≡ nat_eq a 0
int-zero zero = refl
int-zero (suc a) = rw (le-ltb (suc a) 0 (omega arith), lt-ltb 0 (suc a) (omega arith), ne_eqb (suc a) 0 (λ e. absurd (omega (arith, e)))) refl

pub nonzero-is : (n a : ℕ) → 1 ≤ n → a < 2 ^ n → not (nat_eq a 0) ≡ not (int_eq (signed_of n a) (pos 0))
nonzero-is n a low below = elim (cases_lt a (2 ^ (n - 1))) as (λ _. not (nat_eq a 0) ≡ not (int_eq (signed_of n a) (pos 0))) [
  | inl less ↦ rw (signed_low n a less) (ap not (sym (int-zero a)))
  | inr more ↦
      let some = pow_pos (n - 1) in
      rw (signed_high n a more below, ne_eqb a 0 (λ e. absurd (omega (arith, e, more, some)))) refl
]

pub negative-is : (n a : ℕ) → 1 ≤ n → a < 2 ^ n → nat_lt (2 ^ (n - 1) - 1) a ≡ int_lt (signed_of n a) (pos 0)
negative-is n a low below =
    let some = pow_pos (n - 1) in
    elim (cases_lt a (2 ^ (n - 1))) as (λ _. nat_lt (2 ^ (n - 1) - 1) a ≡ int_lt (signed_of n a) (pos 0)) [
      | inl less ↦ rw (signed_low n a less, le-ltb (2 ^ (n - 1) - 1) a (omega (arith, less, some))) (sym (le-ltb a 0 (omega arith)))
      | inr more ↦ rw (signed_high n a more below, lt-ltb (2 ^ (n - 1) - 1) a (omega (arith, more, some))) refl
    ]
