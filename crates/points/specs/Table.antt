-- The instruction table: results in exact integers, which are wrapped last (LLVM Language Reference, "Binary Operations", "Bitwise Binary Operations", "Conversion Operations", "icmp Instruction", "select Instruction").
use Rattle.std.specs.Prelude.{ℕ, ◌+◌, ◌-◌, ◌*◌, ◌/◌, ◌%◌, ◌^◌, Bool, true, false, ◌&&◌, ◌||◌, not, nat_eq, nat_lt, nat_le, int_lt, int_le, int_div, int_rem, if◌then◌else◌, Option, Some, None, bit_and, bit_or, bit_xor, pos, ◌+ℤ◌, ◌-ℤ◌, ◌*ℤ◌}
use Rattle.std.specs.Int.{int_shr}
use Rattle.std.specs.Ordering.{int_eq}
use Rattle.tv_num.specs.Width.{signed_of, wrapped, is_outside_unsigned, is_outside_signed}
use Rattle.ir_tree.specs.declared.tree.Flags.{Flags}
use Rattle.ir_tree.specs.declared.tree.Op.{Op}
use Rattle.ir_tree.specs.declared.tree.Op.TheVariants.{Add, Sub, Mul, UnsignedDiv, UnsignedRem, SignedDiv, SignedRem, ShiftLeft, LogicalShiftRight, ArithmeticShiftRight, And, Or, Xor}
use Rattle.ir_tree.specs.declared.tree.Cast.{Cast}
use Rattle.ir_tree.specs.declared.tree.Cast.TheVariants.{Truncate, ZeroExtend, SignExtend}
use Rattle.ir_tree.specs.declared.tree.Predicate.{Predicate}
use Rattle.ir_tree.specs.declared.tree.Predicate.TheVariants as predicate
use Rattle.byte_block.specs.declared.value.Value.{Value}
use Rattle.byte_block.specs.declared.value.Value.TheVariants.{Num, Poison}

abbrev pub poison_if : Bool → Value → Value
poison_if true v = Poison
poison_if false v = v

-- a flag is set, and the exact result is out of its range: the unsigned one for nuw, the signed one for nsw
abbrev pub is_flagged : Flags → Bool → Bool → Bool
is_flagged flags unsigned signed = (flags.nuw && unsigned) || (flags.nsw && signed)

-- ---- where an operation is undefined behaviour

-- 0, or poison, which might be it
abbrev pub is_zero_or_poison : ℕ → Value → Bool
is_zero_or_poison n (Num a) = nat_eq (a % 2 ^ n) 0
is_zero_or_poison n _ = true

-- -1 in two's complement
abbrev pub is_minus_1 : ℕ → Value → Bool
is_minus_1 n (Num a) = nat_eq (a % 2 ^ n) (2 ^ n - 1)
is_minus_1 n _ = false

-- the least number of n bits in two's complement, or poison, which might be it
abbrev pub is_least_or_poison : ℕ → Value → Bool
is_least_or_poison n (Num a) = nat_eq (a % 2 ^ n) (2 ^ (n - 1))
is_least_or_poison n _ = true

-- the quotient of the least number by -1 is out of range
abbrev pub has_no_quotient : ℕ → Value → Value → Bool
has_no_quotient n left right = is_zero_or_poison n right || (is_minus_1 n right && is_least_or_poison n left)

abbrev pub is_undefined : Op → ℕ → Value → Value → Bool
is_undefined (Add flags) n left right = false
is_undefined (Sub flags) n left right = false
is_undefined (Mul flags) n left right = false
is_undefined (UnsignedDiv exact) n left right = is_zero_or_poison n right
is_undefined UnsignedRem n left right = is_zero_or_poison n right
is_undefined (SignedDiv exact) n left right = has_no_quotient n left right
is_undefined SignedRem n left right = has_no_quotient n left right
is_undefined (ShiftLeft flags) n left right = false
is_undefined (LogicalShiftRight exact) n left right = false
is_undefined (ArithmeticShiftRight exact) n left right = false
is_undefined And n left right = false
is_undefined (Or disjoint) n left right = false
is_undefined Xor n left right = false

-- ---- where an operation on numbers of n bits gives poison

abbrev pub is_poisoned : Op → ℕ → ℕ → ℕ → Bool
is_poisoned (Add flags) n a b = is_flagged flags (is_outside_unsigned n (pos a +ℤ pos b)) (is_outside_signed n (signed_of n a +ℤ signed_of n b))
is_poisoned (Sub flags) n a b = is_flagged flags (is_outside_unsigned n (pos a -ℤ pos b)) (is_outside_signed n (signed_of n a -ℤ signed_of n b))
is_poisoned (Mul flags) n a b = is_flagged flags (is_outside_unsigned n (pos (a * b))) (is_outside_signed n (signed_of n a *ℤ signed_of n b))
is_poisoned (UnsignedDiv exact) n a b = exact && not (nat_eq (a % b) 0)
is_poisoned UnsignedRem n a b = false
is_poisoned (SignedDiv exact) n a b = exact && not (int_eq (int_rem (signed_of n a) (signed_of n b)) (pos 0))
is_poisoned SignedRem n a b = false
-- the bits that a shift to the left loses are all 0, and all copies of the result's sign, where the product by the power of 2 is in range
is_poisoned (ShiftLeft flags) n a b =
    nat_le n b || is_flagged flags (is_outside_unsigned n (pos a *ℤ pos (2 ^ b))) (is_outside_signed n (signed_of n a *ℤ pos (2 ^ b)))
is_poisoned (LogicalShiftRight exact) n a b = nat_le n b || (exact && not (nat_eq (a % 2 ^ b) 0))
is_poisoned (ArithmeticShiftRight exact) n a b = nat_le n b || (exact && not (nat_eq (a % 2 ^ b) 0))
is_poisoned And n a b = false
is_poisoned (Or disjoint) n a b = disjoint && not (nat_eq (bit_and a b) 0)
is_poisoned Xor n a b = false

-- ---- and otherwise its result

abbrev pub number_result : Op → ℕ → ℕ → ℕ → ℕ
number_result (Add flags) n a b = (a + b) % 2 ^ n
number_result (Sub flags) n a b = wrapped n (pos a -ℤ pos b)
number_result (Mul flags) n a b = (a * b) % 2 ^ n
number_result (UnsignedDiv exact) n a b = a / b
number_result UnsignedRem n a b = a % b
-- rounded toward 0, and the remainder has the dividend's sign
number_result (SignedDiv exact) n a b = wrapped n (int_div (signed_of n a) (signed_of n b))
number_result SignedRem n a b = wrapped n (int_rem (signed_of n a) (signed_of n b))
number_result (ShiftLeft flags) n a b = (a * 2 ^ b) % 2 ^ n
number_result (LogicalShiftRight exact) n a b = a / 2 ^ b
number_result (ArithmeticShiftRight exact) n a b = wrapped n (int_shr (signed_of n a) b)
number_result And n a b = bit_and a b
number_result (Or disjoint) n a b = bit_or a b
number_result Xor n a b = bit_xor a b

-- a poison operand makes poison
abbrev pub defined_result : Op → ℕ → Value → Value → Value
defined_result op n (Num a) (Num b) = poison_if (is_poisoned op n (a % 2 ^ n) (b % 2 ^ n)) (Num (number_result op n (a % 2 ^ n) (b % 2 ^ n)))
defined_result op n _ _ = Poison

-- None is undefined behaviour
abbrev pub value_result : Op → ℕ → Value → Value → Option Value
value_result op n left right = if is_undefined op n left right then None else Some (defined_result op n left right)

-- ---- comparisons

-- whether the predicate holds of numbers of n bits, read as unsigned or in two's complement
abbrev pub holds_of : Predicate → ℕ → ℕ → ℕ → Bool
holds_of predicate.Equal n a b = nat_eq a b
holds_of predicate.NotEqual n a b = not (nat_eq a b)
holds_of predicate.UnsignedGreater n a b = nat_lt b a
holds_of predicate.UnsignedGreaterOrEqual n a b = nat_le b a
holds_of predicate.UnsignedLess n a b = nat_lt a b
holds_of predicate.UnsignedLessOrEqual n a b = nat_le a b
holds_of predicate.SignedGreater n a b = int_lt (signed_of n b) (signed_of n a)
holds_of predicate.SignedGreaterOrEqual n a b = int_le (signed_of n b) (signed_of n a)
holds_of predicate.SignedLess n a b = int_lt (signed_of n a) (signed_of n b)
holds_of predicate.SignedLessOrEqual n a b = int_le (signed_of n a) (signed_of n b)

-- the number of a truth value
abbrev pub truth : Bool → ℕ
truth true = 1
truth false = 0

abbrev pub is_negative : ℕ → ℕ → Bool
is_negative n a = nat_le (2 ^ (n - 1)) a

-- one of the two is negative and the other isn't
abbrev pub have_two_signs : ℕ → ℕ → ℕ → Bool
have_two_signs n a b = (is_negative n a && not (is_negative n b)) || (not (is_negative n a) && is_negative n b)

-- with `samesign` operands of different signs give poison
abbrev pub are_unlike : Bool → ℕ → ℕ → ℕ → Bool
are_unlike same_sign n a b = same_sign && have_two_signs n a b

abbrev pub compared : Predicate → Bool → ℕ → Value → Value → Value
compared predicate same_sign n (Num a) (Num b) =
    poison_if (are_unlike same_sign n (a % 2 ^ n) (b % 2 ^ n)) (Num (truth (holds_of predicate n (a % 2 ^ n) (b % 2 ^ n))))
compared predicate same_sign n _ _ = Poison

-- ---- casts

-- a number of `from` bits at another width; a truncation with flags requires the cut bits to be 0, or copies of the result's sign
abbrev pub cast_number : Cast → ℕ → ℕ → ℕ → Value
cast_number (Truncate flags) from to a = poison_if (is_flagged flags (is_outside_unsigned to (pos a)) (is_outside_signed to (signed_of from a))) (Num (a % 2 ^ to))
cast_number (ZeroExtend non_negative) from to a = poison_if (non_negative && is_negative from a) (Num (a % 2 ^ to))
cast_number SignExtend from to a = Num (wrapped to (signed_of from a))

abbrev pub cast_value : Cast → ℕ → ℕ → Value → Value
cast_value cast from to (Num a) = cast_number cast from to (a % 2 ^ from)
cast_value cast from to _ = Poison

-- ---- a choice between two

-- the other one has no effect
abbrev pub selected : Value → Value → Value → Value
selected (Num c) if_true if_false = if nat_eq (c % 2) 1 then if_true else if_false
selected _ if_true if_false = Poison
