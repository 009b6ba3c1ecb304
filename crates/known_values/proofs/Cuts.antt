-- Numbers cut to a width.
use Rattle.std.proofs.Common.{pow-add, ℕ, ◌≡◌, ◌+◌, ◌-◌, ◌*◌, ◌%◌, ◌^◌, ◌≤◌, ◌<◌, sym, ap, ◌∙◌, arith}
use Rattle.std.proofs.lemmas.Nat.{pow_pos, mul-le}
use Rattle.std.proofs.Math.Nat.{mod-add-mod}
use Rattle.std.proofs.Math.Pow.{mod-mod-pow}

-- a number cut to 128 bits and then to fewer is cut to the fewer
pub cut-cut : (n w : ℕ) → w ≤ 128 → n % 2 ^ 128 % 2 ^ w ≡ n % 2 ^ w
cut-cut n w h =
    let e : (128 - w) + w ≡ 128 = omega arith in
    sym (ap (λ k. n % 2 ^ k % 2 ^ w) e) ∙ mod-mod-pow n (128 - w) w

pub pow-le : (from width : ℕ) → from ≤ width → 2 ^ from ≤ 2 ^ width
pow-le from width h =
    let whole : from + (width - from) ≡ width = omega arith in
    let e : 2 ^ width ≡ 2 ^ from * 2 ^ (width - from) = ap (λ k. 2 ^ k) (sym whole) ∙ pow-add 2 from (width - from) in
    let product : 1 * 2 ^ from ≤ 2 ^ (width - from) * 2 ^ from = mul-le 1 (2 ^ from) (2 ^ (width - from)) (2 ^ from) (omega (arith, pow_pos (width - from))) (omega arith) in
    let turn : 2 ^ (width - from) * 2 ^ from ≡ 2 ^ from * 2 ^ (width - from) = omega arith in
    omega (arith, e, product, turn)

pub difference-cut : (w a b : ℕ) → b < 2 ^ w → ((a + (2 ^ w - 1 - b)) % 2 ^ w + 1) % 2 ^ w ≡ (a + (2 ^ w - b)) % 2 ^ w
difference-cut w a b h =
    let whole : (a + (2 ^ w - 1 - b)) + 1 ≡ a + (2 ^ w - b) = omega (arith, pow_pos w) in
    mod-add-mod (a + (2 ^ w - 1 - b)) (2 ^ w) 1 ∙ ap (λ k. k % 2 ^ w) whole
