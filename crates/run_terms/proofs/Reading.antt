-- Where an integer is used, a pointer reads as poison.
use Rattle.run_terms.proofs.Common.{ℕ, zero, suc, ◌≡◌, ◌<◌, Bool, List, [], ◌∷◌, length, refl, arith, slice_index_or, Op, Case, Num, Poison, cast_value, compared, defined_result, has_no_quotient, is_least_or_poison, is_minus_1, is_undefined, is_zero_or_poison, selected, value_result, cut_value, Edge, Value, Machine, Term, SymValue, Reading, as_integer, value_at, values_at, branched, switched_on}
use Rattle.ir_tree.specs.declared.tree.Op.TheVariants.{Add, Sub, Mul, UnsignedDiv, UnsignedRem, SignedDiv, SignedRem, ShiftLeft, LogicalShiftRight, ArithmeticShiftRight, And, Or, Xor}
use Rattle.ir_tree.specs.declared.tree.Predicate.{Predicate}
use Rattle.ir_tree.specs.declared.tree.Cast.{Cast}
use Rattle.byte_block.specs.declared.value.Value.TheVariants as value

-- a register, where there is one
pub register_at : (r : Reading) (terms : List Term) (registers : List SymValue) (name : ℕ) (none : SymValue) → name < length registers
    → value_at r terms (slice_index_or registers name none) ≡ slice_index_or (values_at r terms registers) name Poison
register_at r terms [] name none lt = absurd (omega arith)
register_at r terms (x ∷ xs) zero none lt = refl
register_at r terms (x ∷ xs) (suc name) none lt = register_at r terms xs name none (omega arith)

-- ---- at a width

pub cut_integer : (n : ℕ) (x : Value) → cut_value n (as_integer x) ≡ cut_value n x
cut_integer n (Num a) = refl
cut_integer n Poison = refl
cut_integer n (value.Ptr p) = refl

-- ---- operations

zero_integer : (n : ℕ) (y : Value) → is_zero_or_poison n (as_integer y) ≡ is_zero_or_poison n y
zero_integer n (Num b) = refl
zero_integer n Poison = refl
zero_integer n (value.Ptr p) = refl

minus_integer : (n : ℕ) (y : Value) → is_minus_1 n (as_integer y) ≡ is_minus_1 n y
minus_integer n (Num b) = refl
minus_integer n Poison = refl
minus_integer n (value.Ptr p) = refl

least_integer : (n : ℕ) (x : Value) → is_least_or_poison n (as_integer x) ≡ is_least_or_poison n x
least_integer n (Num a) = refl
least_integer n Poison = refl
least_integer n (value.Ptr p) = refl

quotient_integer : (n : ℕ) (x y : Value) → has_no_quotient n (as_integer x) (as_integer y) ≡ has_no_quotient n x y
quotient_integer n x y = rw (zero_integer n y, minus_integer n y, least_integer n x) refl

undefined_integer : (op : Op) (n : ℕ) (x y : Value) → is_undefined op n (as_integer x) (as_integer y) ≡ is_undefined op n x y
undefined_integer (Add flags) n x y = refl
undefined_integer (Sub flags) n x y = refl
undefined_integer (Mul flags) n x y = refl
undefined_integer (UnsignedDiv exact) n x y = zero_integer n y
undefined_integer UnsignedRem n x y = zero_integer n y
undefined_integer (SignedDiv exact) n x y = quotient_integer n x y
undefined_integer SignedRem n x y = quotient_integer n x y
undefined_integer (ShiftLeft flags) n x y = refl
undefined_integer (LogicalShiftRight exact) n x y = refl
undefined_integer (ArithmeticShiftRight exact) n x y = refl
undefined_integer And n x y = refl
undefined_integer (Or disjoint) n x y = refl
undefined_integer Xor n x y = refl

defined_integer : (op : Op) (n : ℕ) (x y : Value) → defined_result op n (as_integer x) (as_integer y) ≡ defined_result op n x y
defined_integer op n (Num a) (Num b) = refl
defined_integer op n (Num a) Poison = refl
defined_integer op n (Num a) (value.Ptr q) = refl
defined_integer op n Poison y = refl
defined_integer op n (value.Ptr p) y = refl

pub result_integer : (op : Op) (n : ℕ) (x y : Value) → value_result op n (as_integer x) (as_integer y) ≡ value_result op n x y
result_integer op n x y = rw (undefined_integer op n x y, defined_integer op n x y) refl

pub compared_integer : (predicate : Predicate) (same_sign : Bool) (n : ℕ) (x y : Value) → compared predicate same_sign n (as_integer x) (as_integer y) ≡ compared predicate same_sign n x y
compared_integer predicate same_sign n (Num a) (Num b) = refl
compared_integer predicate same_sign n (Num a) Poison = refl
compared_integer predicate same_sign n (Num a) (value.Ptr q) = refl
compared_integer predicate same_sign n Poison y = refl
compared_integer predicate same_sign n (value.Ptr p) y = refl

pub cast_integer : (cast : Cast) (from to : ℕ) (x : Value) → cast_value cast from to (as_integer x) ≡ cast_value cast from to x
cast_integer cast from to (Num a) = refl
cast_integer cast from to Poison = refl
cast_integer cast from to (value.Ptr p) = refl

pub selected_integer : (x if_true if_false : Value) → selected (as_integer x) if_true if_false ≡ selected x if_true if_false
selected_integer (Num c) if_true if_false = refl
selected_integer Poison if_true if_false = refl
selected_integer (value.Ptr p) if_true if_false = refl

-- ---- ends of blocks

pub branched_integer : (x : Value) (if_true if_false : Edge) (m : Machine) → branched (as_integer x) if_true if_false m ≡ branched x if_true if_false m
branched_integer (Num n) if_true if_false m = refl
branched_integer Poison if_true if_false m = refl
branched_integer (value.Ptr p) if_true if_false m = refl

pub switched_integer : (width : ℕ) (x : Value) (edge : Case → Edge) (default : Edge) (cases : List Case) (m : Machine) → switched_on width (as_integer x) edge default cases m ≡ switched_on width x edge default cases m
switched_integer width (Num n) edge default cases m = refl
switched_integer width Poison edge default cases m = refl
switched_integer width (value.Ptr p) edge default cases m = refl
