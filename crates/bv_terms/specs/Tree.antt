-- A term written out, its width, and its value under an assignment.
use Rattle.std.specs.Prelude.{ℕ, ◌+◌, ◌-◌, ◌*◌, ◌/◌, ◌%◌, ◌^◌, Bool, true, false, not, cond, nat_eq, nat_lt, nat_le, bit_and, bit_or, bit_xor}
use Rattle.bv_terms.specs.declared.term.BinaryOp.{BinaryOp}
use Rattle.bv_terms.specs.declared.term.BinaryOp.TheVariants as op

-- how many bits an operation answers for operands of this width: a comparison answers one
abbrev pub binary_width : BinaryOp → ℕ → ℕ
binary_width op.Eq width = 1
binary_width op.Ult width = 1
binary_width op.Slt width = 1
binary_width _ width = width

-- the number that follows the parts is the width; at a binary operation it is that of the two parts
pub data Tree : Type 0 where
  Constant : (value width : ℕ) → Tree
  Variable : (number width : ℕ) → Tree
  Not : (a : Tree) (width : ℕ) → Tree
  Binary : (op : BinaryOp) (a b : Tree) (width : ℕ) → Tree
  Ite : (c a b : Tree) (width : ℕ) → Tree
  Extract : (a : Tree) (from width : ℕ) → Tree
  Concat : (high low : Tree) (below width : ℕ) → Tree
  Zext : (a : Tree) (width : ℕ) → Tree
  Sext : (a : Tree) (from width : ℕ) → Tree

abbrev pub width_of : Tree → ℕ
width_of (Constant value width) = width
width_of (Variable number width) = width
width_of (Not a width) = width
width_of (Binary op a b width) = binary_width op width
width_of (Ite c a b width) = width
width_of (Extract a from width) = width
width_of (Concat high low below width) = width
width_of (Zext a width) = width
width_of (Sext a from width) = width

abbrev pub truth : ℕ → Bool
truth n = not (nat_eq n 0)

abbrev pub digit : Bool → ℕ
digit b = cond b 1 0

-- the sign bit of a number of this width
abbrev pub is_negative : ℕ → ℕ → Bool
is_negative width n = nat_le (2 ^ (width - 1)) n

-- the quotient is all ones where the divisor is 0
abbrev pub quotient : ℕ → ℕ → ℕ → ℕ
quotient width a b = cond (nat_eq b 0) (2 ^ width - 1) (a / b)

-- the remainder is the dividend where the divisor is 0
abbrev pub remainder : ℕ → ℕ → ℕ
remainder a b = cond (nat_eq b 0) a (a % b)

-- a shift by the width or more leaves nothing, or copies of the sign
abbrev pub shifted_left : ℕ → ℕ → ℕ → ℕ
shifted_left width a b = cond (nat_lt b width) (a * 2 ^ b % 2 ^ width) 0

abbrev pub shifted_right : ℕ → ℕ → ℕ → ℕ
shifted_right width a b = cond (nat_lt b width) (a / 2 ^ b) 0

-- a negative number is inverted before and after the shift, so that ones come in
abbrev pub shifted_signed : ℕ → ℕ → ℕ → ℕ
shifted_signed width a b = cond (is_negative width a) (2 ^ width - 1 - shifted_right width (2 ^ width - 1 - a) b) (shifted_right width a b)

-- a negative number is less than one that isn't, and two of the same sign are in unsigned order
abbrev pub is_less_signed : ℕ → ℕ → ℕ → Bool
is_less_signed width a b = cond (is_negative width a) (cond (is_negative width b) (nat_lt a b) true) (cond (is_negative width b) false (nat_lt a b))

-- copies of the sign come before the number
abbrev pub extended_signed : ℕ → ℕ → ℕ → ℕ
extended_signed from width a = cond (is_negative from a) (2 ^ width - 2 ^ from + a) a

-- the value of an operation on two numbers of the width
abbrev pub binary_value : BinaryOp → (width x y : ℕ) → ℕ
binary_value op.And width x y = bit_and x y
binary_value op.Or width x y = bit_or x y
binary_value op.Xor width x y = bit_xor x y
binary_value op.Add width x y = (x + y) % 2 ^ width
binary_value op.Sub width x y = (x + (2 ^ width - y)) % 2 ^ width
binary_value op.Mul width x y = (x * y) % 2 ^ width
binary_value op.Udiv width x y = quotient width x y
binary_value op.Urem width x y = remainder x y
binary_value op.Shl width x y = shifted_left width x y
binary_value op.Lshr width x y = shifted_right width x y
binary_value op.Ashr width x y = shifted_signed width x y
binary_value op.Eq width x y = digit (nat_eq x y)
binary_value op.Ult width x y = digit (nat_lt x y)
binary_value op.Slt width x y = digit (is_less_signed width x y)

-- the value where each variable, by its number and width, has what is assigned, cut to the width
abbrev pub value_of : (ℕ → ℕ → ℕ) → Tree → ℕ
value_of v (Constant value width) = value
value_of v (Variable number width) = v number width % 2 ^ width
value_of v (Not a width) = 2 ^ width - 1 - value_of v a
value_of v (Binary op a b width) = binary_value op width (value_of v a) (value_of v b)
value_of v (Ite c a b width) = cond (truth (value_of v c)) (value_of v a) (value_of v b)
value_of v (Extract a from width) = value_of v a / 2 ^ from % 2 ^ width
value_of v (Concat high low below width) = value_of v high * 2 ^ below + value_of v low
value_of v (Zext a width) = value_of v a
value_of v (Sext a from width) = extended_signed from width (value_of v a)
