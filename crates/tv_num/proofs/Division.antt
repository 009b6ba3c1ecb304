-- Signed division of numbers of a width, where the quotient has room.
use Rattle.std.proofs.Common.{◌≡◌, ◌≢◌, ℕ, zero, suc, ◌+◌, ◌-◌, ◌*◌, ◌/◌, ◌%◌, ◌^◌, ◌<◌, ◌≤◌, inl, inr, ℤ, pos, negsuc, neg_ℤ, int_div, refl, sym, ap, subst, ◌∙◌, arith, FitsSigned, w64, to_z, of_z, to_z-of_z}
use Rattle.std.specs.Int.{cast_unsigned}
use Rattle.std.proofs.lemmas.Bool.{cases_lt, lt-ltb, le-ltb}
use Rattle.std.proofs.lemmas.Int.{ints}
use Rattle.std.proofs.Math.Nat.{div-le_self, div-add-mod, mul-le-mul_right}
use Rattle.std.proofs.Math.Pow.{pow_mono}
use Rattle.tv_num.specs.declared.Width.{Width}
use Rattle.tv_num.specs.Width.{signed_of}

-- ---- the two halves

signed_low : (n a : ℕ) → a < 2 ^ (n - 1) → signed_of n a ≡ pos a
unfolding signed_of
signed_low n a h = rw (lt-ltb a (2 ^ (n - 1)) h) refl

signed_high : (n a : ℕ) → 2 ^ (n - 1) ≤ a → a < 2 ^ n → signed_of n a ≡ negsuc (2 ^ n - a - 1)
unfolding signed_of
signed_high n a h below = rw (le-ltb a (2 ^ (n - 1)) h) (omega (arith, ints, below))

halves : (w : Width) → 2 ^ w.bits ≡ 2 * 2 ^ (w.bits - 1)
halves w = let low = w.at_least_1 in let e : w.bits ≡ suc (w.bits - 1) = omega (arith, low) in ap (λ k. 2 ^ k) e ∙ omega arith

small_half : (w : Width) → 2 ^ (w.bits - 1) ≤ 2 ^ 63
small_half w = let most = w.at_most_64 in let h : w.bits - 1 ≤ 63 = omega (arith, most) in pow_mono h

pub signed_fits : (w : Width) (a : ℕ) → a < 2 ^ w.bits → FitsSigned w64 (signed_of w.bits a)
signed_fits w a below =
    let half = halves w in
    let small = small_half w in
    elim (cases_lt a (2 ^ (w.bits - 1))) as (λ _. FitsSigned w64 (signed_of w.bits a)) [
      | inl low ↦ rw (signed_low w.bits a low) (record { sfits = omega (arith, low, small) })
      | inr high ↦ rw (signed_high w.bits a high below) (record { sfits = omega (arith, high, below, half, small) })
    ]

-- ---- the divisor

pub divisor_some : (w : Width) (b : ℕ) → b < 2 ^ w.bits → b ≢ 0 → 0 < cast_unsigned w64 (signed_of w.bits b)
divisor_some w b below some =
    let half = halves w in
    let small = small_half w in
    elim (cases_lt b (2 ^ (w.bits - 1))) as (λ _. 0 < cast_unsigned w64 (signed_of w.bits b)) [
      | inl low ↦ rw (signed_low w.bits b low) (omega (arith, some))
      | inr high ↦ rw (signed_high w.bits b high below) (omega (arith, high, below, half, small))
    ]

-- ---- the quotient

negative_fits : (r : ℕ) → r ≤ 2 ^ 63 → FitsSigned w64 (neg_ℤ (pos r))
negative_fits zero h = record { sfits = omega arith }
negative_fits (suc r) h = record { sfits = omega (arith, h) }

half_quotient : (a b q r : ℕ) → suc (suc b) * q + r ≡ suc a → a < 2 ^ 63 → q < 2 ^ 63
half_quotient a b q r e small = let times : 2 * q ≤ suc (suc b) * q = mul-le-mul_right q (omega arith) in omega (arith, times, e, small)

quotient_fits : (x y : ℤ) → FitsSigned w64 x → ((x ≡ negsuc 9223372036854775807) × (y ≡ negsuc 0) → ⊥) → FitsSigned w64 (int_div x y)
quotient_fits (pos a) (pos b) fits room = record { sfits = (let less = div-le_self a b in let small : a < 2 ^ 63 = fits.sfits in omega (arith, less, small)) }
quotient_fits (pos a) (negsuc b) fits room = negative_fits (a / suc b) (let less = div-le_self a (suc b) in let small : a < 2 ^ 63 = fits.sfits in omega (arith, less, small))
quotient_fits (negsuc a) (pos b) fits room = negative_fits (suc a / b) (let less = div-le_self (suc a) b in let small : a < 2 ^ 63 = fits.sfits in omega (arith, less, small))
quotient_fits (negsuc a) (negsuc zero) fits room = record {
  sfits =
      (let small : a < 2 ^ 63 = fits.sfits in
      let less = div-le_self (suc a) (suc zero) in
      let other : a ≢ 9223372036854775807 = λ e. room (ap negsuc e, refl) in
      omega (arith, less, small, other));
}
quotient_fits (negsuc a) (negsuc (suc b)) fits room = record { sfits = half_quotient a b (suc a / suc (suc b)) (suc a % suc (suc b)) (div-add-mod (suc a) (suc (suc b))) fits.sfits }

least_is : (w : Width) (a : ℕ) → a < 2 ^ w.bits → signed_of w.bits a ≡ negsuc 9223372036854775807 → a ≡ 2 ^ (w.bits - 1)
least_is w a below e =
    let half = halves w in
    let small = small_half w in
    elim (cases_lt a (2 ^ (w.bits - 1))) as (λ _. a ≡ 2 ^ (w.bits - 1)) [
      | inl low ↦ absurd (let f : pos a ≡ negsuc 9223372036854775807 = sym (signed_low w.bits a low) ∙ e in cc)
      | inr high ↦
          let f : negsuc (2 ^ w.bits - a - 1) ≡ negsuc 9223372036854775807 = sym (signed_high w.bits a high below) ∙ e in
          let g : 2 ^ w.bits - a - 1 ≡ 9223372036854775807 = cc in
          omega (arith, high, below, half, small, g)
    ]

minus_1_is : (w : Width) (b : ℕ) → b < 2 ^ w.bits → signed_of w.bits b ≡ negsuc 0 → b ≡ 2 ^ w.bits - 1
minus_1_is w b below e =
    elim (cases_lt b (2 ^ (w.bits - 1))) as (λ _. b ≡ 2 ^ w.bits - 1) [
      | inl low ↦ absurd (let f : pos b ≡ negsuc 0 = sym (signed_low w.bits b low) ∙ e in cc)
      | inr high ↦
          let f : negsuc (2 ^ w.bits - b - 1) ≡ negsuc 0 = sym (signed_high w.bits b high below) ∙ e in
          let g : 2 ^ w.bits - b - 1 ≡ 0 = cc in
          omega (arith, below, g)
    ]

pub signed_quotient_fits : (w : Width) (a b : ℕ) → a < 2 ^ w.bits → b < 2 ^ w.bits → ((b ≡ 2 ^ w.bits - 1) × (a ≡ 2 ^ (w.bits - 1)) → ⊥) → FitsSigned w64 (int_div (signed_of w.bits a) (signed_of w.bits b))
signed_quotient_fits w a b below below' room =
    quotient_fits (signed_of w.bits a) (signed_of w.bits b) (signed_fits w a below) (λ e. room (minus_1_is w b below' e.1, least_is w a below e.0))

-- ---- as the code divides

pub bits_fit : (x y : ℤ) → FitsSigned w64 x → FitsSigned w64 y → FitsSigned w64 (int_div x y) → FitsSigned w64 (int_div (to_z w64 (of_z w64 x)) (to_z w64 (of_z w64 y)))
bits_fit x y f g h =
    subst (λ z. FitsSigned w64 (int_div z (to_z w64 (of_z w64 y)))) (sym (to_z-of_z f)) (subst (λ z. FitsSigned w64 (int_div x z)) (sym (to_z-of_z g)) h)
