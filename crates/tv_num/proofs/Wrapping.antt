-- Exact results, wrapped.
use Rattle.std.proofs.Common.{◌≡◌, ℕ, suc, ◌+◌, ◌-◌, ◌*◌, ◌/◌, ◌%◌, ◌^◌, ◌<◌, ◌≤◌, inl, inr, ℤ, pos, negsuc, ◌-ℤ◌, refl, sym, ap, ◌∙◌, arith, FitsSigned, w64}
use Rattle.std.specs.Int.{cast_unsigned}
use Rattle.std.proofs.lemmas.Bool.{cases_lt}
use Rattle.std.proofs.lemmas.Int.{ints}
use Rattle.std.proofs.lemmas.Nat.{mod_below, mod-mul-add, pow_pos}
use Rattle.std.proofs.Math.Nat.{mod-add-div, mod-eq_of_lt, add-mod_right, mul-le-mul_right}
use Rattle.std.proofs.Math.Pow.{pow-add}
use Rattle.tv_num.specs.Width.{wrapped}

-- ---- a negative result

few_wholes : (a k m q r : ℕ) → a ≡ q * m + r → a < k * m → q < k
few_wholes a k m q r e below =
    elim (cases_lt q k) as (λ _. q < k) [
      | inl less ↦ less
      | inr more ↦ absurd (let times : k * m ≤ q * m = mul-le-mul_right m more in omega (arith, times, e, below))
    ]

parts : (x y m : ℕ) → (x + y + 1) * m ≡ x * m + y * m + m
parts x y m = omega arith

-- k times m, less a number and 1
rest_of : (a k m q r : ℕ) → r < m → a ≡ q * m + r → a < k * m → (k * m - suc a) % m ≡ m - 1 - r
rest_of a k m q r small e below =
    let few = few_wholes a k m q r e below in
    let sum : k ≡ (k - 1 - q) + q + 1 = omega (arith, few) in
    let split : k * m ≡ (k - 1 - q) * m + q * m + m = ap (λ n. n * m) sum ∙ parts (k - 1 - q) q m in
    let rest : k * m - suc a ≡ (k - 1 - q) * m + (m - 1 - r) = omega (arith, split, e, small) in
    rw rest (mod-mul-add (k - 1 - q) m (m - 1 - r) (omega (arith, small)))

pub wrapped_negative : (n a : ℕ) → n ≤ 64 → a < 2 ^ 64 → (2 ^ 64 - suc a) % 2 ^ n ≡ wrapped n (negsuc a)
unfolding wrapped
wrapped_negative n a most below =
    let all : 64 ≡ (64 - n) + n = omega (arith, most) in
    let e : 2 ^ 64 ≡ 2 ^ (64 - n) * 2 ^ n = ap (λ k. 2 ^ k) all ∙ pow-add 2 (64 - n) n in
    let whole : a % 2 ^ n + 2 ^ n * (a / 2 ^ n) ≡ a = mod-add-div a (2 ^ n) in
    let whole' : a ≡ a / 2 ^ n * 2 ^ n + a % 2 ^ n = omega (arith, whole) in
    let below' : a < 2 ^ (64 - n) * 2 ^ n = omega (arith, e, below) in
    ap (λ k. (k - suc a) % 2 ^ n) e ∙ rest_of a (2 ^ (64 - n)) (2 ^ n) (a / 2 ^ n) (a % 2 ^ n) (mod_below a (2 ^ n) (pow_pos n)) whole' below'

-- ---- a difference

pub wrapped_difference : (n a b : ℕ) → a < 2 ^ n → b < 2 ^ n → (a + (2 ^ n - b)) % 2 ^ n ≡ wrapped n (pos a -ℤ pos b)
unfolding wrapped
wrapped_difference n a b small small' =
    elim (cases_lt a b) as (λ _. (a + (2 ^ n - b)) % 2 ^ n ≡ wrapped n (pos a -ℤ pos b)) [
      | inl less ↦
          let negative : pos a -ℤ pos b ≡ negsuc (b - a - 1) = omega (arith, ints, less) in
          let low : (b - a - 1) % 2 ^ n ≡ b - a - 1 = mod-eq_of_lt (omega (arith, small')) in
          let here : (a + (2 ^ n - b)) % 2 ^ n ≡ a + (2 ^ n - b) = mod-eq_of_lt (omega (arith, less, small')) in
          here ∙ omega (arith, low, less, small') ∙ sym (ap (wrapped n) negative)
      | inr more ↦
          let positive : pos a -ℤ pos b ≡ pos (a - b) = omega (arith, ints, more) in
          let sum : a + (2 ^ n - b) ≡ a - b + 2 ^ n = omega (arith, more, small') in
          ap (λ k. k % 2 ^ n) sum ∙ add-mod_right (a - b) (2 ^ n) ∙ sym (ap (wrapped n) positive)
    ]

pub wrapped_bits : (n : ℕ) (z : ℤ) → n ≤ 64 → FitsSigned w64 z → cast_unsigned w64 z % 2 ^ n ≡ wrapped n z
unfolding wrapped
wrapped_bits n (pos a) most fits = refl
wrapped_bits n (negsuc a) most fits = wrapped_negative n a most (let small : a < 2 ^ 63 = fits.sfits in omega (arith, small))
