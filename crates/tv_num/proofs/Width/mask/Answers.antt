use Rattle.std.proofs.Common.{◌≡◌, ℕ, ◌+◌, ◌-◌, ◌*◌, ◌/◌, ◌^◌, ◌<◌, sym, ap, ◌∙◌, arith}
use Rattle.std.proofs.lemmas.Nat.{pow_pos, div-mul-add}
use Rattle.std.proofs.Math.Pow.{pow-add}
use Rattle.tv_num.proofs.Width.mask.Goals as goal

-- 64 ones without the last of them
ones_over : (p q : ℕ) → 0 < q → (p + 1) * q ≡ 18446744073709551616 → 18446744073709551615 / q ≡ p
ones_over p q some e =
    let split : (p + 1) * q ≡ p * q + q = omega arith in
    let ones : 18446744073709551615 ≡ p * q + (q - 1) = omega (arith, split, e, some) in
    ap (λ n. n / q) ones ∙ div-mul-add p q (q - 1) (omega (arith, some))

pub returns : goal.returns
returns c =
    let b = c.args.self.bits in
    let most = c.args.self.at_most_64 in
    let whole : 2 ^ b - 1 + 1 ≡ 2 ^ b = (let some = pow_pos b in omega (arith, some)) in
    let all : b + (64 - b) ≡ 64 = omega (arith, most) in
    ones_over (2 ^ b - 1) (2 ^ (64 - b)) (pow_pos (64 - b)) (ap (λ n. n * 2 ^ (64 - b)) whole ∙ sym (pow-add 2 b (64 - b)) ∙ ap (λ n. 2 ^ n) all)
