-- Exact products of numbers in two's complement.
use Rattle.inst_terms.proofs.Common.{ℕ, zero, suc, ◌≡◌, ◌<◌, ◌≤◌, ◌+◌, ◌-◌, ◌*◌, ◌%◌, ◌^◌, pos, negsuc, neg_ℤ, inl, inr, refl, ap, sym, ◌∙◌, arith, pow-add, pow_pos, ◌*ℤ◌, cases_lt, mod-mul-add, mul-lt, mul-le, mul-mod, mod-eq_of_lt, mod_self, zero-mod, extended_signed, signed_of}
use Rattle.std.proofs.Math.Pow.{mod-mod-pow}
use Rattle.inst_terms.proofs.Halves.{halves, signed_low, signed_high}
use Rattle.inst_terms.proofs.Additions.{by-halves}
use Rattle.inst_terms.proofs.Cuts.{wider, extended-low, extended-high}

square : (n : ℕ) → 2 ^ (2 * n) ≡ 2 ^ n * 2 ^ n
square n = let e : 2 * n ≡ n + n = omega arith in ap (λ k. 2 ^ k) e ∙ pow-add 2 n n

pub product-fits : (n a b : ℕ) → a < 2 ^ n → b < 2 ^ n → (a * b) % 2 ^ (2 * n) ≡ a * b
product-fits n a b la lb = mod-eq_of_lt (let small : a * b < 2 ^ n * 2 ^ n = mul-lt a b (2 ^ n) (2 ^ n) la lb in omega (arith, square n, small))

-- four squares of the half
four : (m h t : ℕ) → m ≡ 2 * h → t ≡ m * m → t ≡ 4 * (h * h)
four m h t e f = rw (f, e) (omega arith)

-- the product of two numbers up to the half is up to the half of the square
half-square : (n a b : ℕ) → 1 ≤ n → a ≤ 2 ^ (n - 1) → b ≤ 2 ^ (n - 1) → 2 * (a * b) ≤ 2 ^ (2 * n - 1)
half-square n a b low la lb =
    let whole = four (2 ^ n) (2 ^ (n - 1)) (2 ^ (2 * n)) (halves n low) (square n) in
    let half = halves (2 * n) (omega (arith, low)) in
    let small : a * b ≤ 2 ^ (n - 1) * 2 ^ (n - 1) = mul-le a b (2 ^ (n - 1)) (2 ^ (n - 1)) la lb in
    omega (arith, whole, half, small)

-- the opposite of a product
times-opposite : (x d t : ℕ) → 1 ≤ d → d ≤ t → x * d ≤ t → (x * (t - d)) % t ≡ (t - x * d) % t
times-opposite zero d t some fits le =
    let e : 0 * (t - d) ≡ 0 = omega arith in
    let f : t - 0 * d ≡ t = omega arith in
    rw (e, f, zero-mod t, mod_self t) refl
times-opposite (suc x) d t some fits le =
    let e : suc x * (t - d) ≡ x * t + (t - suc x * d) = spread x d t fits le in
    let positive : 0 < suc x * d = omega (arith, mul-le 1 d (suc x) d (omega arith) (omega arith), some) in
    let small : t - suc x * d < t = omega (arith, positive, le) in
    ap (λ k. k % t) e ∙ (mod-mul-add x t (t - suc x * d) small ∙ sym (mod-eq_of_lt small))
  where
    spread-of : (x d e t : ℕ) → t ≡ d + e → suc x * d ≤ t → suc x * e ≡ x * t + (t - suc x * d)
    spread-of x d e t is le =
        let sides : suc x * e + suc x * d ≡ x * (d + e) + (d + e) = omega arith in
        let times : x * t ≡ x * (d + e) = ap (λ k. x * k) is in
        omega (arith, is, le, sides, times)

    spread : (x d t : ℕ) → d ≤ t → suc x * d ≤ t → suc x * (t - d) ≡ x * t + (t - suc x * d)
    spread x d t fits le = spread-of x d (t - d) t (omega (arith, fits)) le

opposites : (c d t : ℕ) → c + d ≤ t → c * d < t → ((t - c) * (t - d)) % t ≡ c * d
opposites c d t fits small =
    let e = t - c - d in
    let is : t ≡ c + d + e = omega (arith, fits) in
    let left : t - c ≡ d + e = omega (arith, fits) in
    let right : t - d ≡ c + e = omega (arith, fits) in
    let sides : (d + e) * (c + e) ≡ e * (c + d + e) + c * d = omega arith in
    let whole : e * (c + d + e) ≡ e * t = ap (λ k. e * k) (sym is) in
    rw (left, right) (ap (λ k. k % t) (sides ∙ ap (λ k. k + c * d) whole) ∙ mod-mul-add e t (c * d) small)

-- what is left of the opposite of a number up to the half
opposite-signed : (n p : ℕ) → 1 ≤ n → p ≤ 2 ^ (n - 1) → signed_of n ((2 ^ n - p) % 2 ^ n) ≡ neg_ℤ (pos p)
opposite-signed n zero low le =
    let e : 2 ^ n - 0 ≡ 2 ^ n = omega arith in
    rw (e, mod_self (2 ^ n)) (signed_low n 0 (pow_pos (n - 1)))
opposite-signed n (suc p) low le =
    let half = halves n low in
    let same : (2 ^ n - suc p) % 2 ^ n ≡ 2 ^ n - suc p = mod-eq_of_lt (omega (arith, pow_pos n)) in
    let back : 2 ^ n - (2 ^ n - suc p) - 1 ≡ p = omega (arith, half, le) in
    rw same (signed_high n (2 ^ n - suc p) (omega (arith, half, le)) (omega (arith, pow_pos n)) ∙ ap negsuc back)

pub product-exact : (n a b : ℕ) → 1 ≤ n → a < 2 ^ n → b < 2 ^ n
    → signed_of (2 * n) ((extended_signed n (2 * n) a * extended_signed n (2 * n) b) % 2 ^ (2 * n)) ≡ signed_of n a *ℤ signed_of n b
product-exact n a b low ba bb =
    let half = halves n low in
    let t = 2 ^ (2 * n) in
    let half' = halves (2 * n) (omega (arith, low)) in
    let wide = wider n (2 * n) (omega arith) in
    by-halves n a b (signed_of (2 * n) ((extended_signed n (2 * n) a * extended_signed n (2 * n) b) % t) ≡ signed_of n a *ℤ signed_of n b)
    (λ la lb.
    let small = half-square n a b low (omega (arith, la)) (omega (arith, lb)) in
    let positive = pow_pos (2 * n - 1) in
    let whole : (a * b) % t ≡ a * b = mod-eq_of_lt (omega (arith, small, half', positive)) in
    rw (extended-low n (2 * n) a la, extended-low n (2 * n) b lb, signed_low n a la, signed_low n b lb, whole) (signed_low (2 * n) (a * b) (omega (arith, small, positive))))
    (λ la hb.
    let d = 2 ^ n - b in
    let is : t - 2 ^ n + b ≡ t - d = omega (arith, bb, wide) in
    let small = half-square n a d low (omega (arith, la)) (omega (arith, half, hb)) in
    let sized : suc (2 ^ n - b - 1) ≡ d = omega (arith, bb) in
    let right : pos a *ℤ negsuc (2 ^ n - b - 1) ≡ neg_ℤ (pos (a * d)) = ap (λ k. neg_ℤ (pos (a * k))) sized in
    rw (extended-low n (2 * n) a la, extended-high n (2 * n) b hb, is, times-opposite a d t (omega (arith, bb)) (omega (arith, wide)) (omega (arith, small, half')), signed_low n a la, signed_high n b hb bb)
    (opposite-signed (2 * n) (a * d) (omega (arith, low)) (omega (arith, small)) ∙ sym right))
    (λ ha lb.
    let c = 2 ^ n - a in
    let is : t - 2 ^ n + a ≡ t - c = omega (arith, ba, wide) in
    let small = half-square n b c low (omega (arith, lb)) (omega (arith, half, ha)) in
    let sized : suc (2 ^ n - a - 1) ≡ c = omega (arith, ba) in
    let turn : (t - c) * b ≡ b * (t - c) = omega arith in
    let turn' : c * b ≡ b * c = omega arith in
    let right : negsuc (2 ^ n - a - 1) *ℤ pos b ≡ neg_ℤ (pos (b * c)) = ap (λ k. neg_ℤ (pos (k * b))) sized ∙ ap (λ k. neg_ℤ (pos k)) turn' in
    rw (extended-high n (2 * n) a ha, extended-low n (2 * n) b lb, is, turn, times-opposite b c t (omega (arith, ba)) (omega (arith, wide)) (omega (arith, small, half')), signed_high n a ha ba, signed_low n b lb)
    (opposite-signed (2 * n) (b * c) (omega (arith, low)) (omega (arith, small)) ∙ sym right))
    (λ ha hb.
    let c = 2 ^ n - a in
    let d = 2 ^ n - b in
    let is : t - 2 ^ n + a ≡ t - c = omega (arith, ba, wide) in
    let is' : t - 2 ^ n + b ≡ t - d = omega (arith, bb, wide) in
    let small = half-square n c d low (omega (arith, half, ha)) (omega (arith, half, hb)) in
    let positive = pow_pos (2 * n - 1) in
    let sized : suc (2 ^ n - a - 1) ≡ c = omega (arith, ba) in
    let sized' : suc (2 ^ n - b - 1) ≡ d = omega (arith, bb) in
    let right : negsuc (2 ^ n - a - 1) *ℤ negsuc (2 ^ n - b - 1) ≡ pos (c * d) = ap (λ k. pos (k * suc (2 ^ n - b - 1))) sized ∙ ap (λ k. pos (c * k)) sized' in
    rw (extended-high n (2 * n) a ha, extended-high n (2 * n) b hb, is, is', opposites c d t (omega (arith, half, ha, hb, wide)) (omega (arith, small, half', positive)), signed_high n a ha ba, signed_high n b hb bb)
    (signed_low (2 * n) (c * d) (omega (arith, small, positive)) ∙ sym right))

extended-cut : (n a : ℕ) → 1 ≤ n → a < 2 ^ n → extended_signed n (2 * n) a % 2 ^ n ≡ a
extended-cut n a low ba = elim (cases_lt a (2 ^ (n - 1))) as (λ _. extended_signed n (2 * n) a % 2 ^ n ≡ a) [
  | inl less ↦ rw (extended-low n (2 * n) a less) (mod-eq_of_lt ba)
  | inr more ↦
      let e : 2 ^ (2 * n) - 2 ^ n + a ≡ (2 ^ n - 1) * 2 ^ n + a = ap (λ k. k + a) (less-one (2 ^ n) (2 ^ (2 * n)) (pow_pos n) (square n)) in
      rw (extended-high n (2 * n) a more, e) (mod-mul-add (2 ^ n - 1) (2 ^ n) a ba)
]
  where
    less-one : (m t : ℕ) → 0 < m → t ≡ m * m → t - m ≡ (m - 1) * m
    less-one zero t some e = absurd (omega (arith, some))
    less-one (suc m) t some e =
        let one : suc m - 1 ≡ m = omega arith in
        let times : suc m * suc m ≡ m * suc m + suc m = omega arith in
        rw one (omega (arith, e, times))

pub product-low : (n a b : ℕ) → 1 ≤ n → a < 2 ^ n → b < 2 ^ n → (extended_signed n (2 * n) a * extended_signed n (2 * n) b) % 2 ^ (2 * n) % 2 ^ n ≡ (a * b) % 2 ^ n
product-low n a b low ba bb =
    let e : 2 * n ≡ n + n = omega arith in
    let x = extended_signed n (2 * n) a in
    let y = extended_signed n (2 * n) b in
    ap (λ k. (x * y) % 2 ^ k % 2 ^ n) e ∙ (mod-mod-pow (x * y) n n ∙ (mul-mod x y (2 ^ n)
    ∙ (ap (λ k. (k * (y % 2 ^ n)) % 2 ^ n) (extended-cut n a low ba) ∙ ap (λ k. (a * k) % 2 ^ n) (extended-cut n b low bb))))
