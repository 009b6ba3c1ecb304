-- Where an operation is defined and gives no poison.
use Rattle.choice_interp.proofs.Common.{◌≡◌, ◌≢◌, ℕ, zero, suc, ◌-◌, ◌%◌, ◌^◌, ◌<◌, Bool, true, false, ◌&&◌, ◌||◌, nat_le, inl, inr, refl, sym, ◌∙◌, eq-eqb, arith, cases_lt, le-leb, mod-mod, mod-eq_of_lt, zero-mod, Num, or_parts}
use Rattle.ir_tree.specs.declared.tree.Op.{Op}
use Rattle.ir_tree.specs.declared.tree.Op.TheVariants.{Add, Sub, Mul, UnsignedDiv, UnsignedRem, SignedDiv, SignedRem, ShiftLeft, LogicalShiftRight, ArithmeticShiftRight, And, Or, Xor}
use Rattle.points.specs.Table.{is_zero_or_poison, is_minus_1, is_least_or_poison, has_no_quotient, is_undefined}

-- numbers that are cut to the width are as defined as before
pub undefined_again : (op : Op) (n a b : ℕ) → is_undefined op n (Num (a % 2 ^ n)) (Num (b % 2 ^ n)) ≡ is_undefined op n (Num a) (Num b)
undefined_again (Add flags) n a b = refl
undefined_again (Sub flags) n a b = refl
undefined_again (Mul flags) n a b = refl
undefined_again (UnsignedDiv exact) n a b = rw (mod-mod b (2 ^ n)) refl
undefined_again UnsignedRem n a b = rw (mod-mod b (2 ^ n)) refl
undefined_again (SignedDiv exact) n a b = rw (mod-mod a (2 ^ n), mod-mod b (2 ^ n)) refl
undefined_again SignedRem n a b = rw (mod-mod a (2 ^ n), mod-mod b (2 ^ n)) refl
undefined_again (ShiftLeft flags) n a b = refl
undefined_again (LogicalShiftRight exact) n a b = refl
undefined_again (ArithmeticShiftRight exact) n a b = refl
undefined_again And n a b = refl
undefined_again (Or disjoint) n a b = refl
undefined_again Xor n a b = refl

true_not_false : {A : Type 0} → ◌≡◌ {A = Bool} true false → A
true_not_false e = absurd (cc)

pub divisor_some : (n b : ℕ) → is_zero_or_poison n (Num b) ≡ false → b ≢ 0
divisor_some n zero e = true_not_false (sym (eq-eqb (0 % 2 ^ n) 0 (zero-mod (2 ^ n))) ∙ e)
divisor_some n (suc b) e = λ z. omega (arith, z)

pub quotient_some : (n a b : ℕ) → has_no_quotient n (Num a) (Num b) ≡ false → b ≢ 0
quotient_some n a b e = divisor_some n b (or_parts (is_zero_or_poison n (Num b)) (is_minus_1 n (Num b) && is_least_or_poison n (Num a)) e).0

pub quotient_room : (n a b : ℕ) → a < 2 ^ n → b < 2 ^ n → has_no_quotient n (Num a) (Num b) ≡ false → (b ≡ 2 ^ n - 1) × (a ≡ 2 ^ (n - 1)) → ⊥
quotient_room n a b small small' e both =
    let f = (or_parts (is_zero_or_poison n (Num b)) (is_minus_1 n (Num b) && is_least_or_poison n (Num a)) e).1 in
    let g : is_minus_1 n (Num b) ≡ true = eq-eqb (b % 2 ^ n) (2 ^ n - 1) (mod-eq_of_lt small' ∙ both.0) in
    let h : is_least_or_poison n (Num a) ≡ true = eq-eqb (a % 2 ^ n) (2 ^ (n - 1)) (mod-eq_of_lt small ∙ both.1) in
    true_not_false (sym (and_true (is_minus_1 n (Num b)) (is_least_or_poison n (Num a)) g h) ∙ f)
  where
    and_true : (x y : Bool) → x ≡ true → y ≡ true → (x && y) ≡ true
    and_true true y p q = q
    and_true false y p q = true_not_false (sym p)

-- an amount that is no poison is below the width
pub amount_below : (n b : ℕ) (y : Bool) → (nat_le n b || y) ≡ false → b < n
amount_below n b y e =
    elim (cases_lt b n) as (λ _. b < n) [
      | inl less ↦ less
      | inr more ↦ true_not_false (sym (le-leb n b more) ∙ (or_parts (nat_le n b) y e).0)
    ]
