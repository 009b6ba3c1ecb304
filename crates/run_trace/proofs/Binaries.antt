-- Why an operation on two numbers gives poison, or is undefined behaviour.
use Rattle.run_trace.proofs.Common.{◌≡◌, ℕ, ◌<◌, ◌%◌, ◌^◌, List, [], ◌∷◌, length, Bool, true, false, ◌&&◌, ◌||◌, Option, Some, None, inl, inr, refl, sym, ap, ◌∙◌, IsSomeAnd, MatchOption, list_any, Width, Operand, Binary, Value, Num, Machine, poison_if, is_zero_or_poison, is_minus_1, is_least_or_poison, has_no_quotient, is_undefined, is_poisoned, number_result, defined_result, value_result, operand_value, is_poison, Flag, Reason, used_as, is_poison_name, is_poison_literal, is_flag, no_flag, op_kept, gives_poison, is_cause_of_division, IsInstReason, IsPoisonCause, NeedsCause}
use Rattle.ir_tree.specs.declared.tree.IrType.TheVariants as type
use Rattle.ir_tree.specs.declared.tree.Op.{Op}
use Rattle.ir_tree.specs.declared.tree.Op.TheVariants.{Add, Sub, Mul, UnsignedDiv, UnsignedRem, SignedDiv, SignedRem, ShiftLeft, LogicalShiftRight, ArithmeticShiftRight, And, Or, Xor}
use Rattle.run_trace.specs.declared.steps.Reason.TheVariants as reason
use Rattle.run_trace.proofs.Given.{true_not_false, no_and, given, given_back, defined_first, others_same, defined_number}

-- ---- undefined behaviour

pub quotient_found : (n : ℕ) (l r : Value) (o : Option Reason) → is_zero_or_poison n r ≡ false → is_minus_1 n r ≡ true
    → MatchOption o (is_least_or_poison n l ≡ false) (λ x. (is_least_or_poison n l ≡ true) × (is_cause_of_division x n l r ≡ is_minus_1 n r))
    → MatchOption o (has_no_quotient n l r ≡ false) (λ x. (has_no_quotient n l r && is_cause_of_division x n l r) ≡ true)
quotient_found n l r None some minus h = rw (some, minus, h) refl
quotient_found n l r (Some x) some minus h = rw (h.1, some, minus, h.0) refl

pub quotient_fits : (n : ℕ) (l r : Value) → is_zero_or_poison n r ≡ false → is_minus_1 n r ≡ false → has_no_quotient n l r ≡ false
quotient_fits n l r some minus = rw (some, minus) refl

pub division_reason : (into : ℕ) (op : Op) (width : Width) (left right : Operand) (tape : List ℕ) (m : Machine) (x : Reason)
    → (is_undefined op width.bits (operand_value m.registers left) (operand_value m.registers right)
    && is_cause_of_division x width.bits (operand_value m.registers left) (operand_value m.registers right)) ≡ true
    → IsInstReason x (Binary into op width left right) tape m
division_reason into op width left right tape m (reason.Flag flag) e = no_and _ e
division_reason into op width left right tape m reason.ShiftPastWidth e = no_and _ e
division_reason into op width left right tape m reason.PoisonOperand e = no_and _ e
division_reason into op width left right tape m reason.LoadedPoison e = no_and _ e
division_reason into op width left right tape m reason.NoEntry e = no_and _ e
division_reason into op width left right tape m reason.NullArgument e = no_and _ e
division_reason into op width left right tape m reason.PoisonArgument e = no_and _ e
division_reason into op width left right tape m reason.DivisionByZero e = e
division_reason into op width left right tape m reason.PoisonDivisor e = e
division_reason into op width left right tape m reason.DivisionOverflow e = e
division_reason into op width left right tape m reason.PoisonDividend e = e
division_reason into op width left right tape m reason.PoisonAddress e = no_and _ e
division_reason into op width left right tape m reason.NullAddress e = no_and _ e
division_reason into op width left right tape m reason.DeadBlock e = no_and _ e
division_reason into op width left right tape m reason.PastEnd e = no_and _ e
division_reason into op width left right tape m reason.Misaligned e = no_and _ e
division_reason into op width left right tape m reason.PoisonCondition e = no_and _ e
division_reason into op width left right tape m reason.Unreachable e = no_and _ e
division_reason into op width left right tape m reason.PoisonReturn e = no_and _ e
division_reason into op width left right tape m reason.TooManyJumps e = no_and _ e
division_reason into op width left right tape m reason.MissingBlock e = no_and _ e

-- the tests of an unsigned division are those of its divisor
pub divisor_clause : (op : Op) (n : ℕ) (l r : Value) (o : Option Reason) → is_undefined op n l r ≡ is_zero_or_poison n r
    → MatchOption o (is_zero_or_poison n r ≡ false) (λ x. (is_zero_or_poison n r && is_cause_of_division x n l r) ≡ true)
    → MatchOption o (is_undefined op n l r ≡ false) (λ x. (is_undefined op n l r && is_cause_of_division x n l r) ≡ true)
divisor_clause op n l r o e h = rw e h

-- of the values that the operands read
pub division_found : (into : ℕ) (op : Op) (width : Width) (left right : Operand) (tape : List ℕ) (m : Machine) (x : Reason) (l r : Value)
    → l ≡ operand_value m.registers left → r ≡ operand_value m.registers right
    → (is_undefined op width.bits l r && is_cause_of_division x width.bits l r) ≡ true
    → IsInstReason x (Binary into op width left right) tape m
division_found into op width left right tape m x l r e f h = division_reason into op width left right tape m x (rw (e, f) at h)

-- ---- poison

-- the result of an operation that is defined
value_defined : (op : Op) (n : ℕ) (l r : Value) → is_undefined op n l r ≡ false → value_result op n l r ≡ Some (defined_result op n l r)
value_defined op n l r e = rw e refl

-- of two numbers
on_numbers : (op : Op) (n a b : ℕ) (l r : Value) → l ≡ Num a → r ≡ Num b
    → defined_result op n l r ≡ poison_if (is_poisoned op n (a % 2 ^ n) (b % 2 ^ n)) (Num (number_result op n (a % 2 ^ n) (b % 2 ^ n)))
on_numbers op n a b l r e f = rw (e, f) refl

-- flags do not make an operation undefined
undefined_kept : (keeps : Flag → Bool) (op : Op) (n : ℕ) (l r : Value) → is_undefined (op_kept keeps op) n l r ≡ is_undefined op n l r
undefined_kept keeps (Add flags) n l r = refl
undefined_kept keeps (Sub flags) n l r = refl
undefined_kept keeps (Mul flags) n l r = refl
undefined_kept keeps (UnsignedDiv exact) n l r = refl
undefined_kept keeps UnsignedRem n l r = refl
undefined_kept keeps (SignedDiv exact) n l r = refl
undefined_kept keeps SignedRem n l r = refl
undefined_kept keeps (ShiftLeft flags) n l r = refl
undefined_kept keeps (LogicalShiftRight exact) n l r = refl
undefined_kept keeps (ArithmeticShiftRight exact) n l r = refl
undefined_kept keeps And n l r = refl
undefined_kept keeps (Or disjoint) n l r = refl
undefined_kept keeps Xor n l r = refl

-- the operation of two numbers that are used at the width gives poison
pub record IsPoisonOf (op : Op) (n into : ℕ) (l r : Value) (m : Machine) : Type 0 where
  pub a : ℕ
  pub b : ℕ
  pub left : l ≡ Num a
  pub right : r ≡ Num b
  pub poison : is_poisoned op n (a % 2 ^ n) (b % 2 ^ n) ≡ true
  pub within : into < length m.registers

poison_if_back : (b : Bool) (a : ℕ) → is_poison (poison_if b (Num a)) ≡ true → b ≡ true
poison_if_back true a e = refl
poison_if_back false a e = true_not_false (sym e)

pub poison_of : (into : ℕ) (op : Op) (width : Width) (left right : Operand) (tape : List ℕ) (m : Machine)
    → NeedsCause (Binary into op width left right) tape m
    → is_undefined op width.bits (operand_value m.registers left) (operand_value m.registers right) ≡ false
    → list_any (is_poison_literal m.registers) (used_as (type.Int width) left ∷ used_as (type.Int width) right ∷ []) ≡ false
    → IsPoisonOf op width.bits into (operand_value m.registers left) (operand_value m.registers right) m
poison_of into op width left right tape m (inl undefined) defined literals =
    let some = value_defined op width.bits (operand_value m.registers left) (operand_value m.registers right) defined in
    let none = rw some at undefined in
    absurd (cc)
poison_of into op width left right tape m (inr needs) defined literals =
    let n = width.bits in
    let l = operand_value m.registers left in
    let r = operand_value m.registers right in
    let some = value_defined op n l r defined in
    let poison = rw some at needs.0 in
    let back = given_back m into (defined_result op n l r) poison in
    let first = used_as (type.Int width) left in
    let second = used_as (type.Int width) right in
    let a = defined_number n l (defined_first m.registers first (second ∷ []) needs.1 literals) in
    let b = defined_number n r (defined_first m.registers second [] (others_same (is_poison_name m.registers) first (second ∷ []) needs.1) (others_same (is_poison_literal m.registers) first (second ∷ []) literals)) in
    let both : defined_result op n l r ≡ poison_if (is_poisoned op n (a.0 % 2 ^ n) (b.0 % 2 ^ n)) (Num (number_result op n (a.0 % 2 ^ n) (b.0 % 2 ^ n))) = on_numbers op n a.0 b.0 l r a.1 b.1 in
    record {
      a = a.0;
      b = b.0;
      left = a.1;
      right = b.1;
      poison = poison_if_back _ (number_result op n (a.0 % 2 ^ n) (b.0 % 2 ^ n)) (rw both at back.1);
      within = back.0;
    }

-- with other flags it gives poison where the table says so
kept_gives : (keeps : Flag → Bool) (into : ℕ) (op : Op) (width : Width) (left right : Operand) (tape : List ℕ) (m : Machine) (a b : ℕ)
    → operand_value m.registers left ≡ Num a → operand_value m.registers right ≡ Num b → into < length m.registers
    → is_undefined op width.bits (operand_value m.registers left) (operand_value m.registers right) ≡ false
    → gives_poison (Binary into (op_kept keeps op) width left right) tape m ≡ is_poisoned (op_kept keeps op) width.bits (a % 2 ^ width.bits) (b % 2 ^ width.bits)
kept_gives keeps into op width left right tape m a b is_left is_right within defined =
    let n = width.bits in
    let k = op_kept keeps op in
    let l = operand_value m.registers left in
    let r = operand_value m.registers right in
    let some = value_defined k n l r (undefined_kept keeps op n l r ∙ defined) in
    let gives : gives_poison (Binary into k width left right) tape m ≡ is_poison (defined_result k n l r) = rw some (given m into (defined_result k n l r) within) in
    let both : defined_result k n l r ≡ poison_if (is_poisoned k n (a % 2 ^ n) (b % 2 ^ n)) (Num (number_result k n (a % 2 ^ n) (b % 2 ^ n))) = on_numbers k n a b l r is_left is_right in
    gives ∙ ap is_poison both ∙ poison_if_is (is_poisoned k n (a % 2 ^ n) (b % 2 ^ n)) (number_result k n (a % 2 ^ n) (b % 2 ^ n))
  where
    poison_if_is : (x : Bool) (c : ℕ) → is_poison (poison_if x (Num c)) ≡ x
    poison_if_is true c = refl
    poison_if_is false c = refl

module _ (into : ℕ) (op : Op) (width : Width) (left right : Operand) (tape : List ℕ) (m : Machine)
    (defined : is_undefined op width.bits (operand_value m.registers left) (operand_value m.registers right) ≡ false)
    (of : IsPoisonOf op width.bits into (operand_value m.registers left) (operand_value m.registers right) m) where
  poison_reason : (x : Reason) → IsPoisonCause x op width.bits (of.a % 2 ^ width.bits) (of.b % 2 ^ width.bits)
      → IsInstReason x (Binary into op width left right) tape m
  poison_reason (reason.Flag flag) e = record {
    with_it = kept_gives (is_flag flag) into op width left right tape m of.a of.b of.left of.right of.within defined ∙ e.0;
    without = kept_gives no_flag into op width left right tape m of.a of.b of.left of.right of.within defined ∙ e.1;
  }
  poison_reason reason.ShiftPastWidth e = rw of.right e
  poison_reason reason.PoisonOperand e = absurd e
  poison_reason reason.LoadedPoison e = absurd e
  poison_reason reason.NoEntry e = absurd e
  poison_reason reason.NullArgument e = absurd e
  poison_reason reason.PoisonArgument e = absurd e
  poison_reason reason.DivisionByZero e = absurd e
  poison_reason reason.PoisonDivisor e = absurd e
  poison_reason reason.DivisionOverflow e = absurd e
  poison_reason reason.PoisonDividend e = absurd e
  poison_reason reason.PoisonAddress e = absurd e
  poison_reason reason.NullAddress e = absurd e
  poison_reason reason.DeadBlock e = absurd e
  poison_reason reason.PastEnd e = absurd e
  poison_reason reason.Misaligned e = absurd e
  poison_reason reason.PoisonCondition e = absurd e
  poison_reason reason.Unreachable e = absurd e
  poison_reason reason.PoisonReturn e = absurd e
  poison_reason reason.TooManyJumps e = absurd e
  poison_reason reason.MissingBlock e = absurd e

  pub numbers_reason : (o : Option Reason)
      → ((a b : ℕ) → operand_value m.registers left ≡ Num a → operand_value m.registers right ≡ Num b → is_poisoned op width.bits (a % 2 ^ width.bits) (b % 2 ^ width.bits) ≡ true
      → IsSomeAnd o (λ x. IsPoisonCause x op width.bits (a % 2 ^ width.bits) (b % 2 ^ width.bits)))
      → IsSomeAnd o (λ x. IsInstReason x (Binary into op width left right) tape m)
  numbers_reason None found = absurd (found of.a of.b of.left of.right of.poison)
  numbers_reason (Some x) found = poison_reason x (found of.a of.b of.left of.right of.poison)

-- of the values that the operands read
pub numbers_found : (into : ℕ) (op : Op) (width : Width) (left right : Operand) (tape : List ℕ) (m : Machine) (l r : Value) (o : Option Reason)
    → l ≡ operand_value m.registers left → r ≡ operand_value m.registers right
    → is_undefined op width.bits l r ≡ false
    → list_any (is_poison_literal m.registers) (used_as (type.Int width) left ∷ used_as (type.Int width) right ∷ []) ≡ false
    → ((a b : ℕ) → l ≡ Num a → r ≡ Num b → is_poisoned op width.bits (a % 2 ^ width.bits) (b % 2 ^ width.bits) ≡ true
    → IsSomeAnd o (λ x. IsPoisonCause x op width.bits (a % 2 ^ width.bits) (b % 2 ^ width.bits)))
    → NeedsCause (Binary into op width left right) tape m
    → IsSomeAnd o (λ x. IsInstReason x (Binary into op width left right) tape m)
numbers_found into op width left right tape m l r o e f defined literals found needs =
    let defined' : is_undefined op width.bits (operand_value m.registers left) (operand_value m.registers right) ≡ false = rw (e, f) at defined in
    numbers_reason into op width left right tape m defined' (poison_of into op width left right tape m needs defined' literals) o
    (λ a b p q poison. found a b (e ∙ p) (f ∙ q) poison)
