-- Instructions that never give poison of operands that are not.
use Rattle.run_trace.proofs.Common.{◌≡◌, ℕ, ◌%◌, List, [], ◌∷◌, nat_eq, Bool, true, false, if◌then◌else◌, Some, inl, inr, refl, sym, ◌∙◌, list_any, IrType, Operand, MemoryType, TypedOperand, Inst, Select, Freeze, Alloca, Value, Num, Poison, Machine, selected, operand_value, typed_operand_value, cut_value, typed_value, choice_of, with_taken, frozen, is_poison, used_as, taken_arm, effective_operands, is_poison_name, is_poison_literal, value_after, is_some_poison, NeedsCause}
use Rattle.ir_tree.specs.declared.tree.IrType.TheVariants as type
use Rattle.ir_tree.specs.Types.{one_bit, object_size}
use Rattle.byte_block.specs.declared.value.BlockName.TheVariants.{Local}
use Rattle.byte_block.specs.declared.value.Value.TheVariants as value
use Rattle.memory_access.specs.Accesses.{after_alloca}
use Rattle.run_trace.proofs.Given.{true_not_false, given_back, defined_first, others_same}

-- an arm that is not poison, on a condition that is not
arm_defined : (registers : List Value) (v : Value) (t f : TypedOperand) → is_poison (cut_value 1 v) ≡ false
    → list_any (is_poison_name registers) (taken_arm v t f) ≡ false → list_any (is_poison_literal registers) (taken_arm v t f) ≡ false
    → is_poison (selected v (typed_operand_value registers t) (typed_operand_value registers f)) ≡ false
arm_defined registers (Num c) t f e names literals = go (nat_eq (c % 2) 1) names literals
  where
    go : (b : Bool) → list_any (is_poison_name registers) ((if b then t else f) ∷ []) ≡ false → list_any (is_poison_literal registers) ((if b then t else f) ∷ []) ≡ false
        → is_poison (if b then typed_operand_value registers t else typed_operand_value registers f) ≡ false
    go true = defined_first registers t []
    go false = defined_first registers f []
arm_defined registers Poison t f e names literals = true_not_false e
arm_defined registers (value.Ptr p) t f e names literals = true_not_false e

pub select_reason : (into : ℕ) (condition : Operand) (if_true if_false : TypedOperand) (tape : List ℕ) (m : Machine)
    → NeedsCause (Select into condition if_true if_false) tape m
    → list_any (is_poison_literal m.registers) (effective_operands (Select into condition if_true if_false) m.registers) ≡ true
select_reason into condition if_true if_false tape m (inl undefined) = absurd (cc)
select_reason into condition if_true if_false tape m (inr needs) =
    go (list_any (is_poison_literal m.registers) (effective_operands (Select into condition if_true if_false) m.registers)) refl
  where
    go : (b : Bool) → list_any (is_poison_literal m.registers) (effective_operands (Select into condition if_true if_false) m.registers) ≡ b → b ≡ true
    go true e = refl
    go false e =
        let first = used_as (type.Int one_bit) condition in
        let v = operand_value m.registers condition in
        let arms = taken_arm v if_true if_false in
        let back = given_back m into (selected v (typed_operand_value m.registers if_true) (typed_operand_value m.registers if_false)) needs.0 in
        true_not_false
        (sym back.1
        ∙ arm_defined m.registers v if_true if_false (defined_first m.registers first arms needs.1 e)
        (others_same (is_poison_name m.registers) first arms needs.1) (others_same (is_poison_literal m.registers) first arms e))

pub choice_defined : (of_type : IrType) (tape : List ℕ) (m : Machine) → is_poison (choice_of of_type tape m).value ≡ false
choice_defined (type.Int width) tape m = refl
choice_defined type.Ptr tape m = refl

frozen_defined : {A : Type 0} (into : ℕ) (of_type : IrType) (tape : List ℕ) (m : Machine) (v : Value)
    → is_some_poison (value_after (Some (frozen tape m into of_type v)) (Some into)) ≡ true → A
frozen_defined into of_type tape m (Num n) e = true_not_false (sym (given_back m into (Num n) e).1)
frozen_defined into of_type tape m Poison e =
    true_not_false (sym (given_back (with_taken m (choice_of of_type tape m)) into (choice_of of_type tape m).value e).1 ∙ choice_defined of_type tape m)
frozen_defined into of_type tape m (value.Ptr p) e = true_not_false (sym (given_back m into (value.Ptr p) e).1)

pub freeze_never : (into : ℕ) (of_type : IrType) (operand : Operand) (tape : List ℕ) (m : Machine) → NeedsCause (Freeze into of_type operand) tape m → ⊥
freeze_never into of_type operand tape m (inl undefined) = absurd (cc)
freeze_never into of_type operand tape m (inr needs) = frozen_defined into of_type tape m (typed_value of_type (operand_value m.registers operand)) needs.0

pub alloca_never : (into number : ℕ) (of_type : MemoryType) (align : ℕ) (tape : List ℕ) (m : Machine) → NeedsCause (Alloca into number of_type align) tape m → ⊥
alloca_never into number of_type align tape m (inl undefined) = absurd (cc)
alloca_never into number of_type align tape m (inr needs) =
    true_not_false
    (sym (given_back (record m { memory = after_alloca m.memory (Local m.turn number) (object_size of_type) align }) into (value.Ptr (record { block = Local m.turn number; offset = 0 })) needs.0).1)

-- as a match has it: the instruction is such a one
pub select_is : (inst : Inst) (into : ℕ) (condition : Operand) (if_true if_false : TypedOperand) (m : Machine) → inst ≡ Select into condition if_true if_false
    → (tape : List ℕ) → NeedsCause inst tape m → list_any (is_poison_literal m.registers) (effective_operands inst m.registers) ≡ true
select_is inst into condition if_true if_false m e tape needs =
    rw e (select_reason into condition if_true if_false tape m (rw e at needs))

pub freeze_is : (inst : Inst) (into : ℕ) (of_type : IrType) (operand : Operand) (m : Machine) → inst ≡ Freeze into of_type operand
    → (tape : List ℕ) → NeedsCause inst tape m → ⊥
freeze_is inst into of_type operand m e tape needs = freeze_never into of_type operand tape m (rw e at needs)

pub alloca_is : (inst : Inst) (into number : ℕ) (of_type : MemoryType) (align : ℕ) (m : Machine) → inst ≡ Alloca into number of_type align
    → (tape : List ℕ) → NeedsCause inst tape m → ⊥
alloca_is inst into number of_type align m e tape needs = alloca_never into number of_type align tape m (rw e at needs)
