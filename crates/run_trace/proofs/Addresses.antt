-- Why a getelementptr gives poison.
use Rattle.run_trace.proofs.Common.{◌≡◌, ◌≢◌, ℕ, ◌+◌, ◌<◌, List, [], ◌∷◌, map, length, Bool, true, false, ◌&&◌, ◌||◌, not, if◌then◌else◌, inl, inr, refl, sym, ap, ◌∙◌, list_any, list_all, Operand, MemoryType, GetElementPtr, Value, Machine, operand_value, cut_value, address_value, index_values, is_poison, Flag, used_as, index_operand, is_poison_name, is_poison_literal, gives_poison, IsByFlag, NeedsCause}
use Rattle.ir_tree.specs.declared.tree.IrType.TheVariants as type
use Rattle.ir_tree.specs.declared.tree.GepIndex.{GepIndex}
use Rattle.byte_block.specs.declared.value.Ptr.{Ptr}
use Rattle.byte_block.specs.declared.value.Value.TheVariants as value
use Rattle.byte_block.specs.declared.block.MemoryBlock.{MemoryBlock}
use Rattle.memory_access.specs.declared.offsets.Index.{Index}
use Rattle.memory_access.specs.Offsets as offsets
use Rattle.memory_access.specs.Offsets.{is_number, is_index, is_negative, breaks_inbounds, moved, gep_result}
use Rattle.run_trace.specs.declared.steps.Flag.TheVariants.{NoUnsignedWrap, NoSignedWrap, Exact, Disjoint, NonNegative, SameSign, Inbounds}
use Rattle.run_trace.proofs.Given.{true_not_false, given, given_back, defined_first, others_same}

-- what is used as a pointer and is not poison is a pointer
defined_address : (v : Value) → is_poison (address_value v) ≡ false → (p : Ptr) × (v ≡ value.Ptr p)
defined_address (value.Num a) e = true_not_false e
defined_address value.Poison e = true_not_false e
defined_address (value.Ptr p) e = (p, refl)

is_number-cut : (n : ℕ) (v : Value) → is_poison (cut_value n v) ≡ false → is_number (cut_value n v) ≡ true
is_number-cut n (value.Num a) e = refl
is_number-cut n value.Poison e = true_not_false e
is_number-cut n (value.Ptr p) e = true_not_false e

-- indices that are not poison are numbers
all_numbers : (registers : List Value) (of_type : MemoryType) (n : ℕ) (indices : List GepIndex)
    → list_any (is_poison_name registers) (map index_operand indices) ≡ false → list_any (is_poison_literal registers) (map index_operand indices) ≡ false
    → list_all is_index (index_values registers of_type n indices) ≡ true
all_numbers registers of_type n [] names literals = refl
all_numbers registers of_type n (index ∷ indices) names literals =
    let first = is_number-cut index.width.bits (operand_value registers index.operand) (defined_first registers (index_operand index) (map index_operand indices) names literals) in
    rw first
    (all_numbers registers of_type (n + 1) indices
    (others_same (is_poison_name registers) (index_operand index) (map index_operand indices) names)
    (others_same (is_poison_literal registers) (index_operand index) (map index_operand indices) literals))

-- where the flags agree with nuw alone
nuw_alone : (numbers inbounds breaks nuw negative : Bool) → (not numbers || (inbounds && breaks) || (nuw && negative)) ≡ true
    → (not numbers || (inbounds && breaks) || (false && negative)) ≡ false → (not numbers || (false && breaks) || (nuw && negative)) ≡ true
nuw_alone false inbounds breaks nuw negative e f = refl
nuw_alone true true true nuw negative e f = true_not_false f
nuw_alone true true false nuw negative e f = e
nuw_alone true false breaks nuw negative e f = e

poison_if_leads : (memory : List MemoryBlock) (p : Ptr) (indices : List Index) (inbounds nuw : Bool)
    → is_poison (gep_result memory (value.Ptr p) indices inbounds nuw) ≡ offsets.gives_poison memory p indices inbounds nuw
poison_if_leads memory p indices inbounds nuw = go (offsets.gives_poison memory p indices inbounds nuw)
  where
    go : (b : Bool) → is_poison (if b then value.Poison else value.Ptr (moved p indices)) ≡ b
    go true = refl
    go false = refl

module _ (memory : List MemoryBlock) (p : Ptr) (indices : List Index) where
  without_flags : list_all is_index indices ≡ true → is_poison (gep_result memory (value.Ptr p) indices false false) ≡ false
  without_flags numbers = poison_if_leads memory p indices false false ∙ rw numbers refl

  by_nuw : (inbounds nuw : Bool) → is_poison (gep_result memory (value.Ptr p) indices inbounds nuw) ≡ true
      → is_poison (gep_result memory (value.Ptr p) indices inbounds false) ≡ false
      → is_poison (gep_result memory (value.Ptr p) indices false nuw) ≡ true
  by_nuw inbounds nuw e f =
      poison_if_leads memory p indices false nuw
      ∙ nuw_alone (list_all is_index indices) inbounds (breaks_inbounds memory p indices) nuw (list_any is_negative indices)
      (sym (poison_if_leads memory p indices inbounds nuw) ∙ e) (sym (poison_if_leads memory p indices inbounds false) ∙ f)

module _ (into : ℕ) (inbounds nuw : Bool) (of_type : MemoryType) (base : Operand) (indices : List GepIndex) (tape : List ℕ) (m : Machine)
    (within : into < length m.registers) where
  gives : (i n : Bool) (b : Value) (vs : List Index) → b ≡ operand_value m.registers base → vs ≡ index_values m.registers of_type 0 indices
      → gives_poison (GetElementPtr into i n of_type base indices) tape m ≡ is_poison (gep_result m.memory b vs i n)
  gives i n b vs e f = rw (e, f) (given m into (gep_result m.memory (operand_value m.registers base) (index_values m.registers of_type 0 indices) i n) within)

  by_flag : (flag : Flag) (p : Ptr) (b : Value) (vs : List Index) → b ≡ operand_value m.registers base → vs ≡ index_values m.registers of_type 0 indices
      → b ≡ value.Ptr p → list_all is_index vs ≡ true
      → is_poison (gep_result m.memory b vs inbounds nuw) ≡ true
      → (flag ≡ Inbounds → is_poison (gep_result m.memory b vs inbounds false) ≡ true)
      → (flag ≢ Inbounds → (flag ≡ NoUnsignedWrap) × (is_poison (gep_result m.memory b vs inbounds false) ≡ false))
      → IsByFlag flag (GetElementPtr into inbounds nuw of_type base indices) tape m
  by_flag Inbounds p b vs e f is numbers poison in_bounds by_wrap = record {
    with_it = gives inbounds false b vs e f ∙ in_bounds refl;
    without = gives false false b vs e f ∙ ap (λ (v : Value). is_poison (gep_result m.memory v vs false false)) is ∙ without_flags m.memory p vs numbers;
  }
  by_flag NoUnsignedWrap p b vs e f is numbers poison in_bounds by_wrap = record {
    with_it =
        gives false nuw b vs e f ∙ ap (λ (v : Value). is_poison (gep_result m.memory v vs false nuw)) is
        ∙ by_nuw m.memory p vs inbounds nuw (ap (λ (v : Value). is_poison (gep_result m.memory v vs inbounds nuw)) (sym is) ∙ poison)
        (ap (λ (v : Value). is_poison (gep_result m.memory v vs inbounds false)) (sym is) ∙ (by_wrap (λ (h : ◌≡◌ {A = Flag} NoUnsignedWrap Inbounds). cc)).1);
    without = gives false false b vs e f ∙ ap (λ (v : Value). is_poison (gep_result m.memory v vs false false)) is ∙ without_flags m.memory p vs numbers;
  }
  by_flag NoSignedWrap p b vs e f is numbers poison in_bounds by_wrap = let h = (by_wrap (λ (h : ◌≡◌ {A = Flag} NoSignedWrap Inbounds). cc)).0 in absurd (cc)
  by_flag Exact p b vs e f is numbers poison in_bounds by_wrap = let h = (by_wrap (λ (h : ◌≡◌ {A = Flag} Exact Inbounds). cc)).0 in absurd (cc)
  by_flag Disjoint p b vs e f is numbers poison in_bounds by_wrap = let h = (by_wrap (λ (h : ◌≡◌ {A = Flag} Disjoint Inbounds). cc)).0 in absurd (cc)
  by_flag NonNegative p b vs e f is numbers poison in_bounds by_wrap = let h = (by_wrap (λ (h : ◌≡◌ {A = Flag} NonNegative Inbounds). cc)).0 in absurd (cc)
  by_flag SameSign p b vs e f is numbers poison in_bounds by_wrap = let h = (by_wrap (λ (h : ◌≡◌ {A = Flag} SameSign Inbounds). cc)).0 in absurd (cc)

pub gep_reason : (into : ℕ) (inbounds nuw : Bool) (of_type : MemoryType) (base : Operand) (indices : List GepIndex) (tape : List ℕ) (m : Machine)
    (flag : Flag) (b : Value) (vs : List Index) → b ≡ operand_value m.registers base → vs ≡ index_values m.registers of_type 0 indices
    → list_any (is_poison_literal m.registers) (used_as type.Ptr base ∷ map index_operand indices) ≡ false
    → (flag ≡ Inbounds → is_poison (gep_result m.memory b vs inbounds false) ≡ true)
    → (flag ≢ Inbounds → (flag ≡ NoUnsignedWrap) × (is_poison (gep_result m.memory b vs inbounds false) ≡ false))
    → NeedsCause (GetElementPtr into inbounds nuw of_type base indices) tape m
    → IsByFlag flag (GetElementPtr into inbounds nuw of_type base indices) tape m
gep_reason into inbounds nuw of_type base indices tape m flag b vs e f literals in_bounds by_wrap (inl undefined) = absurd (cc)
gep_reason into inbounds nuw of_type base indices tape m flag b vs e f literals in_bounds by_wrap (inr needs) =
    let back = given_back m into (gep_result m.memory (operand_value m.registers base) (index_values m.registers of_type 0 indices) inbounds nuw) needs.0 in
    let first = used_as type.Ptr base in
    let rest = map index_operand indices in
    let address = defined_address (operand_value m.registers base) (defined_first m.registers first rest needs.1 literals) in
    let numbers = all_numbers m.registers of_type 0 indices (others_same (is_poison_name m.registers) first rest needs.1) (others_same (is_poison_literal m.registers) first rest literals) in
    by_flag into inbounds nuw of_type base indices tape m back.0 flag address.0 b vs e f (e ∙ address.1) (ap (list_all is_index) f ∙ numbers)
    (ap (λ (v : Value). is_poison (gep_result m.memory v vs inbounds nuw)) e ∙ ap (λ (ws : List Index). is_poison (gep_result m.memory (operand_value m.registers base) ws inbounds nuw)) f ∙ back.1)
    in_bounds by_wrap
