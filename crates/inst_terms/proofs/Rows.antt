-- The rows that need no arithmetic, and the whole table from them.
use Rattle.std.proofs.Common.{pos_of_ne-zero}
use Rattle.std.proofs.lemmas.Bool.{eqb-false}
use Rattle.inst_terms.proofs.Common.{ℕ, ◌≡◌, ◌<◌, ◌≤◌, ◌/◌, ◌%◌, ◌^◌, Bool, true, false, not, ◌&&◌, ◌||◌, nat_eq, Some, inl, inr, bit_and, bit_or, bit_xor, refl, ap, sym, ◌∙◌, cases_Bool, mod-mod, mod-eq_of_lt, Op, Add, Sub, Mul, UnsignedDiv, UnsignedRem, SignedDiv, SignedRem, ShiftLeft, LogicalShiftRight, ArithmeticShiftRight, And, Or, Xor, Num, quotient, remainder, poison_if, is_zero_or_poison, is_minus_1, is_least_or_poison, is_undefined, defined_result, value_result, value_from, option_from, row_of}

pub from_is-if : (p : Bool) (x : ℕ) → value_from p x ≡ poison_if p (Num x)
from_is-if true x = refl
from_is-if false x = refl

-- ---- bit by bit

pub and_is : (n a b : ℕ) → value_from false (bit_and a b) ≡ row_of And n a b
and_is n a b = refl

pub or_is : (disjoint : Bool) (n a b : ℕ) → value_from (disjoint && not (nat_eq (bit_and a b) 0)) (bit_or a b) ≡ row_of (Or disjoint) n a b
or_is disjoint n a b = from_is-if (disjoint && not (nat_eq (bit_and a b) 0)) (bit_or a b)

pub xor_is : (n a b : ℕ) → value_from false (bit_xor a b) ≡ row_of Xor n a b
xor_is n a b = refl

-- ---- unsigned division

pub some-divisor : (n b : ℕ) → b < 2 ^ n → is_zero_or_poison n (Num b) ≡ false → nat_eq b 0 ≡ false
some-divisor n b lt e = ap (λ k. nat_eq k 0) (sym (mod-eq_of_lt lt)) ∙ e

pub divisor-positive : (n b : ℕ) → b < 2 ^ n → is_zero_or_poison n (Num b) ≡ false → 1 ≤ b
divisor-positive n b lt e = pos_of_ne-zero (eqb-false b 0 (some-divisor n b lt e))

pub quotient_is : (exact : Bool) (n a b : ℕ) → b < 2 ^ n → is_undefined (UnsignedDiv exact) n (Num a) (Num b) ≡ false
    → value_from (exact && not (nat_eq (remainder a b) 0)) (quotient n a b) ≡ row_of (UnsignedDiv exact) n a b
quotient_is exact n a b lt e = rw (some-divisor n b lt e) (from_is-if (exact && not (nat_eq (a % b) 0)) (a / b))

pub remainder_is : (n a b : ℕ) → b < 2 ^ n → is_undefined UnsignedRem n (Num a) (Num b) ≡ false → value_from false (remainder a b) ≡ row_of UnsignedRem n a b
remainder_is n a b lt e = rw (some-divisor n b lt e) refl

-- ---- the table

zero-cut : (n : ℕ) (q : Bool) (y : ℕ) → is_zero_or_poison n (value_from q (y % 2 ^ n)) ≡ is_zero_or_poison n (value_from q y)
zero-cut n true y = refl
zero-cut n false y = rw (mod-mod y (2 ^ n)) refl

minus_1-cut : (n : ℕ) (q : Bool) (y : ℕ) → is_minus_1 n (value_from q (y % 2 ^ n)) ≡ is_minus_1 n (value_from q y)
minus_1-cut n true y = refl
minus_1-cut n false y = rw (mod-mod y (2 ^ n)) refl

least-cut : (n : ℕ) (p : Bool) (x : ℕ) → is_least_or_poison n (value_from p (x % 2 ^ n)) ≡ is_least_or_poison n (value_from p x)
least-cut n true x = refl
least-cut n false x = rw (mod-mod x (2 ^ n)) refl

undefined-cut : (op : Op) (n : ℕ) (p q : Bool) (x y : ℕ) → is_undefined op n (value_from p (x % 2 ^ n)) (value_from q (y % 2 ^ n)) ≡ is_undefined op n (value_from p x) (value_from q y)
undefined-cut (Add flags) n p q x y = refl
undefined-cut (Sub flags) n p q x y = refl
undefined-cut (Mul flags) n p q x y = refl
undefined-cut (UnsignedDiv exact) n p q x y = zero-cut n q y
undefined-cut UnsignedRem n p q x y = zero-cut n q y
undefined-cut (SignedDiv exact) n p q x y = rw (zero-cut n q y, minus_1-cut n q y, least-cut n p x) refl
undefined-cut SignedRem n p q x y = rw (zero-cut n q y, minus_1-cut n q y, least-cut n p x) refl
undefined-cut (ShiftLeft flags) n p q x y = refl
undefined-cut (LogicalShiftRight exact) n p q x y = refl
undefined-cut (ArithmeticShiftRight exact) n p q x y = refl
undefined-cut And n p q x y = refl
undefined-cut (Or disjoint) n p q x y = refl
undefined-cut Xor n p q x y = refl

defined-cut : (op : Op) (n : ℕ) (p q r : Bool) (x y z : ℕ) → is_undefined op n (value_from p x) (value_from q y) ≡ false
    → ((p || q) ≡ false → is_undefined op n (Num (x % 2 ^ n)) (Num (y % 2 ^ n)) ≡ false → value_from r z ≡ row_of op n (x % 2 ^ n) (y % 2 ^ n))
    → value_from ((p || q) || r) z ≡ defined_result op n (value_from p x) (value_from q y)
defined-cut op n true q r x y z e h = refl
defined-cut op n false true r x y z e h = refl
defined-cut op n false false r x y z e h = h refl (undefined-cut op n false false x y ∙ e)

pub binary_is : (op : Op) (n : ℕ) (p q u r : Bool) (x y z : ℕ) → u ≡ is_undefined op n (value_from p (x % 2 ^ n)) (value_from q (y % 2 ^ n))
    → ((p || q) ≡ false → is_undefined op n (Num (x % 2 ^ n)) (Num (y % 2 ^ n)) ≡ false → value_from r z ≡ row_of op n (x % 2 ^ n) (y % 2 ^ n))
    → option_from u (value_from ((p || q) || r) z) ≡ value_result op n (value_from p x) (value_from q y)
binary_is op n p q u r x y z e h =
    let whole : u ≡ is_undefined op n (value_from p x) (value_from q y) = e ∙ undefined-cut op n p q x y in
    elim (cases_Bool (is_undefined op n (value_from p x) (value_from q y))) as (λ _. option_from u (value_from ((p || q) || r) z) ≡ value_result op n (value_from p x) (value_from q y)) [
      | inl t ↦ rw (whole, t) refl
      | inr f ↦ rw (whole, f) (ap Some (defined-cut op n p q r x y z f h))
    ]
