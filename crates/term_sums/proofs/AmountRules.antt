-- What is added modulo 2 to the power of a width.
use Rattle.term_sums.proofs.Common.{ap, ℕ, ◌≡◌, ◌<◌, ◌+◌, ◌-◌, ◌*◌, ◌%◌, ◌^◌, Bool, true, false, cond, arith, ◌∙◌, sym, quotient, remainder, shifted_left, add-mod-mod, add-mod_right, mod-eq_of_lt, mul-mod_second, add-mul-mod_self_right}
use Rattle.std.proofs.lemmas.Nat.{pow_pos, mul-mod_first}
use Rattle.std.proofs.Math.Nat.{mod-mod}
use Rattle.std.specs.Prelude.{nat_lt}
use Rattle.term_sums.proofs.MultipleRules.{multiple_and_rest}
use Rattle.term_sums.proofs.PolynomialRules.{same_plus, plus_same, same_times}
use Rattle.term_sums.specs.Polynomials.{AddsTo}

-- numbers that differ by multiples of m
same_by : (m a b i j : ℕ) → a + i * m ≡ b + j * m → a % m ≡ b % m
same_by m a b i j e = sym (add-mul-mod_self_right a i m) ∙ (ap (λ k. k % m) e ∙ add-mul-mod_self_right b j m)

module _ (w : ℕ) where
  pub amount_same : (old new n m : ℕ) → AddsTo w old new n → n % 2 ^ w ≡ m % 2 ^ w → AddsTo w old new m
  amount_same old new n m e same = e ∙ same_plus (2 ^ w) old n m same

  pub added_twice : (old between new n m : ℕ) → AddsTo w old between n → AddsTo w between new m → AddsTo w old new (n + m)
  added_twice old between new n m first second =
      second ∙ (plus_same (2 ^ w) between (old + n) m first ∙ ap (λ k. k % 2 ^ w) (let e : old + n + m ≡ old + (n + m) = omega arith in e))

  pub sum_amount : (p x y : ℕ) → (p * 1 * x + p * 1 * y) % 2 ^ w ≡ (p * ((x + y) % 2 ^ w)) % 2 ^ w
  sum_amount p x y = ap (λ k. k % 2 ^ w) (let e : p * 1 * x + p * 1 * y ≡ p * (x + y) = omega arith in e) ∙ sym (mul-mod_second p (x + y) (2 ^ w))

  pub difference_amount : (p x y : ℕ) → y < 2 ^ w → (p * 1 * x + p * (2 ^ w - 1) * y) % 2 ^ w ≡ (p * ((x + (2 ^ w - y)) % 2 ^ w)) % 2 ^ w
  difference_amount p x y lt = go (2 ^ w) (2 ^ w - 1) (2 ^ w - y) (omega (arith, pow_pos w)) (omega (arith, lt)) ∙ sym (mul-mod_second p (x + (2 ^ w - y)) (2 ^ w))
    where
      go : (m n k : ℕ) → m ≡ n + 1 → k + y ≡ m → (p * 1 * x + p * n * y) % m ≡ (p * (x + k)) % m
      go m n k next whole =
          let parts : p * (k + y) ≡ p * m = ap (λ t. p * t) whole in
          let last : p * y * m ≡ p * y * (n + 1) = ap (λ t. p * y * t) next in
          same_by m (p * 1 * x + p * n * y) (p * (x + k)) p (p * y) (omega (arith, parts, last))

  pub inverse_amount : (p x : ℕ) → x < 2 ^ w → (p * (2 ^ w - 1) * x + p * (2 ^ w - 1)) % 2 ^ w ≡ (p * (2 ^ w - 1 - x)) % 2 ^ w
  inverse_amount p x lt = go (2 ^ w) (2 ^ w - 1) (2 ^ w - 1 - x) (omega (arith, pow_pos w)) (omega (arith, lt))
    where
      go : (m n k : ℕ) → m ≡ n + 1 → k + x ≡ n → (p * n * x + p * n) % m ≡ (p * k) % m
      go m n k next whole =
          let parts : p * (k + x) ≡ p * n = ap (λ t. p * t) whole in
          let last : p * x * m ≡ p * x * (n + 1) = ap (λ t. p * x * t) next in
          same_by m (p * n * x + p * n) (p * k) 0 (p * x) (omega (arith, parts, last))

  pub remainder_amount : (p x y : ℕ) → x < 2 ^ w → (p * 1 * x + p * quotient w x y * (2 ^ w - 1) * y) % 2 ^ w ≡ (p * remainder x y) % 2 ^ w
  remainder_amount p x y lt =
      let q = quotient w x y in
      let t = (q * y) % 2 ^ w in
      let cut : (p * q * (2 ^ w - 1) * y) % 2 ^ w ≡ (p * (2 ^ w - 1) * t) % 2 ^ w =
      ap (λ k. k % 2 ^ w) (let e : p * q * (2 ^ w - 1) * y ≡ p * (2 ^ w - 1) * (q * y) = omega arith in e) ∙ sym (mul-mod_second (p * (2 ^ w - 1)) (q * y) (2 ^ w)) in
      same_plus (2 ^ w) (p * 1 * x) (p * q * (2 ^ w - 1) * y) (p * (2 ^ w - 1) * t) cut
      ∙ go (2 ^ w) (2 ^ w - 1) t (remainder x y) (omega (arith, pow_pos w)) (multiple_and_rest w x y lt)
    where
      go : (m n t r : ℕ) → m ≡ n + 1 → t + r ≡ x → (p * 1 * x + p * n * t) % m ≡ (p * r) % m
      go m n t r next whole =
          let parts : p * (t + r) ≡ p * x = ap (λ k. p * k) whole in
          let last : p * t * m ≡ p * t * (n + 1) = ap (λ k. p * t * k) next in
          same_by m (p * 1 * x + p * n * t) (p * r) 0 (p * t) (omega (arith, parts, last))

  pub product_amount : (first p a b : ℕ) → first % 2 ^ w ≡ (p * 1 * a) % 2 ^ w → (first * 1 * b) % 2 ^ w ≡ (p * ((a * b) % 2 ^ w)) % 2 ^ w
  product_amount first p a b e =
      ap (λ k. k % 2 ^ w) (let turn : first * 1 * b ≡ first * b = omega arith in turn)
      ∙ (same_times (2 ^ w) first (p * 1 * a) b e ∙ ap (λ k. k % 2 ^ w) ((let turn : p * 1 * a * b ≡ p * (a * b) = omega arith in turn)) ∙ sym (mul-mod_second p (a * b) (2 ^ w)))

  -- a shift is a product with the shift of 1
  moved : (x k : ℕ) → (shifted_left w 1 k * x) % 2 ^ w ≡ shifted_left w x k % 2 ^ w
  moved x k = go (nat_lt k w)
    where
      go : (t : Bool) → (cond t (1 * 2 ^ k % 2 ^ w) 0 * x) % 2 ^ w ≡ cond t (x * 2 ^ k % 2 ^ w) 0 % 2 ^ w
      go true =
          mul-mod_first (1 * 2 ^ k) x (2 ^ w) ∙ (ap (λ n. n % 2 ^ w) (let turn : 1 * 2 ^ k * x ≡ x * 2 ^ k = omega arith in turn) ∙ sym (mod-mod (x * 2 ^ k) (2 ^ w)))
      go false = ap (λ n. n % 2 ^ w) (let none : 0 * x ≡ 0 = omega arith in none)

  pub shifted_amount : (p x k : ℕ) → (p * shifted_left w 1 k * x) % 2 ^ w ≡ (p * shifted_left w x k) % 2 ^ w
  shifted_amount p x k =
      ap (λ n. n % 2 ^ w) (let turn : p * shifted_left w 1 k * x ≡ shifted_left w 1 k * x * p = omega arith in turn)
      ∙ (same_times (2 ^ w) (shifted_left w 1 k * x) (shifted_left w x k) p (moved x k)
      ∙ ap (λ n. n % 2 ^ w) (let turn : shifted_left w x k * p ≡ p * shifted_left w x k = omega arith in turn))

  pub added_after : (before old new n : ℕ) → AddsTo w old new n → AddsTo w (before + old) (before + new) n
  added_after before old new n e = same_plus (2 ^ w) before new (old + n) e ∙ ap (λ k. k % 2 ^ w) (let turn : before + (old + n) ≡ before + old + n = omega arith in turn)

  pub added_before : (old new after n : ℕ) → AddsTo w old new n → AddsTo w (old + after) (new + after) n
  added_before old new after n e = plus_same (2 ^ w) new (old + n) after e ∙ ap (λ k. k % 2 ^ w) (let turn : old + n + after ≡ old + after + n = omega arith in turn)

  pub difference_known : (a b d : ℕ) → a < 2 ^ w → b < 2 ^ w → d ≡ (a + (2 ^ w - b)) % 2 ^ w → a ≡ (b + d) % 2 ^ w
  difference_known a b d la lb e =
      sym (ap (λ k. (b + k) % 2 ^ w) e ∙ (add-mod-mod b (a + (2 ^ w - b)) (2 ^ w)
      ∙ (ap (λ k. k % 2 ^ w) (let whole : b + (a + (2 ^ w - b)) ≡ a + 2 ^ w = omega (arith, lb) in whole) ∙ (add-mod_right a (2 ^ w) ∙ mod-eq_of_lt la))))

  pub difference_found : (a b none one work sum : ℕ) → none ≡ 0 → one ≡ 1
      → AddsTo w none work (one * ((a + (2 ^ w - b)) % 2 ^ w)) → AddsTo w none sum work → sum % 2 ^ w ≡ (a + (2 ^ w - b)) % 2 ^ w
  difference_found a b none one work sum nothing single put all =
      let n = (a + (2 ^ w - b)) % 2 ^ w in
      let first : (none + one * n) % 2 ^ w ≡ n % 2 ^ w = ap (λ k. k % 2 ^ w) (ap (λ k. k + one * n) nothing ∙ (ap (λ k. 0 + k * n) single ∙ (let e : 0 + 1 * n ≡ n = omega arith in e))) in
      let second : (none + work) % 2 ^ w ≡ work % 2 ^ w = ap (λ k. k % 2 ^ w) (ap (λ k. k + work) nothing ∙ (let e : 0 + work ≡ work = omega arith in e)) in
      all ∙ (second ∙ (put ∙ (first ∙ mod-mod (a + (2 ^ w - b)) (2 ^ w))))
