-- Why a number is its quotient times the divisor, and the remainder.
use Rattle.term_sums.proofs.Common.{ap, ℕ, ◌≡◌, ◌<◌, ◌+◌, ◌-◌, ◌^◌, arith, ◌∙◌, ◌*◌, ◌%◌, cond, refl, ◌/◌, false, Bool, true, eqb, mod-eq_of_lt, zero-mod, eqb-true, div-add-mod', quotient, remainder}

-- also where the divisor is 0: nothing, and the dividend
pub multiple_and_rest : (w x y : ℕ) → x < 2 ^ w → (quotient w x y * y) % 2 ^ w + remainder x y ≡ x
multiple_and_rest w x y lt = go (eqb y 0) refl
  where
    go : (t : Bool) → eqb y 0 ≡ t → (cond t (2 ^ w - 1) (x / y) * y) % 2 ^ w + cond t x (x % y) ≡ x
    go true e =
        let none : (2 ^ w - 1) * y ≡ 0 = ap (λ k. (2 ^ w - 1) * k) (eqb-true y 0 e) ∙ (let z : (2 ^ w - 1) * 0 ≡ 0 = omega arith in z) in
        ap (λ k. k % 2 ^ w + x) none ∙ (ap (λ k. k + x) (zero-mod (2 ^ w)) ∙ (let z : 0 + x ≡ x = omega arith in z))
    go false e =
        let split : x / y * y + x % y ≡ x = div-add-mod' x y in
        let small : x / y * y < 2 ^ w = omega (arith, split, lt) in
        ap (λ k. k + x % y) (mod-eq_of_lt small) ∙ split
