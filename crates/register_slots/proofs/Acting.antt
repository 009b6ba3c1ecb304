-- An instruction does the same on names and on their slots.
use Rattle.register_slots.proofs.Common.{◌≡◌, ℕ, List, length, map, Option, Some, None, refl, sym, ap, subst, slice_set, option_map, IrType, Inst, MemoryType, results_of, object_size, Value, Num, Poison, Machine, act, assigned, allocated, frozen, loaded, stored, with_taken, choice_of, access_of, operand_value, typed_value, typed_operand_value, index_values, slot_of, operand_in, typed_in, index_in, inst_in, HasSlot, IsRightInst, holding}
use Rattle.ir_tree.specs.declared.tree.IrType.TheVariants as type
use Rattle.ir_tree.specs.declared.tree.Inst.TheVariants.{Binary, Icmp, Cast, Select, Freeze, Alloca, Load, Store, GetElementPtr}
use Rattle.byte_block.specs.declared.value.BlockName.TheVariants.{Local}
use Rattle.byte_block.specs.declared.value.Value.TheVariants as value
use Rattle.byte_block.specs.declared.block.MemoryBlock.{MemoryBlock}
use Rattle.memory_access.specs.declared.access_types.Loaded.{Loaded}
use Rattle.memory_access.specs.declared.access_types.Loaded.TheVariants as load
use Rattle.memory_access.specs.declared.access_types.Stored.{Stored}
use Rattle.memory_access.specs.declared.access_types.Stored.TheVariants as store
use Rattle.memory_access.specs.Accesses.{load_result, store_result, after_store, after_alloca}
use Rattle.memory_access.specs.Offsets.{gep_result}
use Rattle.points.specs.Table.{value_result, compared, cast_value, selected}
use Rattle.register_slots.proofs.Registers.{Agrees, agrees_assigned}
use Rattle.register_slots.proofs.Reading.{operand_read, typed_read, indices_read}

-- the other machine has its values in slots, and equals this one in all else
pub record IsSlotted (slots : List ℕ) (names : ℕ) (held : List (Option ℕ)) (m other : Machine) : Type 0 where
  pub slotted : List Value
  pub is : other ≡ record m { registers = slotted }
  pub agrees : Agrees slots names held m.registers slotted

-- and the block with this label was entered last
abbrev pub IsSlottedIn : List ℕ → ℕ → List (Option ℕ) → ℕ → Machine → Machine → Type 0
IsSlottedIn slots names held label m other = IsSlotted slots names held m other × (m.block ≡ label)

-- after an instruction: either both are undefined behaviour, or neither is
abbrev pub ActsSlotted : List ℕ → ℕ → List (Option ℕ) → ℕ → Option Machine → Option Machine → Type 0
ActsSlotted slots names held label None None = Unit {0}
ActsSlotted slots names held label (Some m) (Some other) = IsSlottedIn slots names held label m other
ActsSlotted slots names held label None (Some other) = ⊥
ActsSlotted slots names held label (Some m) None = ⊥

abbrev with_name : List ℕ → List (Option ℕ) → ℕ → List (Option ℕ)
with_name slots held into = slice_set held (slot_of slots into) (Some into)

pub assigned_slotted : (slots : List ℕ) (names : ℕ) (held : List (Option ℕ)) (label : ℕ) (m : Machine) (slotted : List Value) → Agrees slots names held m.registers slotted → m.block ≡ label
    → (into : ℕ) (v w : Value) → HasSlot slots names (length held) into → w ≡ v
    → IsSlottedIn slots names (with_name slots held into) label (assigned m into v) (assigned (record m { registers = slotted }) (slot_of slots into) w)
assigned_slotted slots names held label m slotted agrees here into v w slot e = (
  record {
    slotted = slice_set slotted (slot_of slots into) v;
    is = ap (assigned (record m { registers = slotted }) (slot_of slots into)) e;
    agrees = agrees_assigned slots names held m.registers slotted into v slot agrees;
  },
  here,
)

module _ (slots : List ℕ) (names : ℕ) (held : List (Option ℕ)) (label : ℕ) (m : Machine) (slotted : List Value) (agrees : Agrees slots names held m.registers slotted) (here : m.block ≡ label) where
  abbrev other : Machine
  other = record m { registers = slotted }

  value_slotted : (into : ℕ) (v w : Value) → HasSlot slots names (length held) into → w ≡ v → IsSlottedIn slots names (with_name slots held into) label (assigned m into v) (assigned other (slot_of slots into) w)
  value_slotted = assigned_slotted slots names held label m slotted agrees here

  result_slotted : (into : ℕ) (o p : Option Value) → HasSlot slots names (length held) into → p ≡ o
      → ActsSlotted slots names (with_name slots held into) label (option_map (assigned m into) o) (option_map (assigned other (slot_of slots into)) p)
  result_slotted into o p slot e = subst (λ (x : Option Value). ActsSlotted slots names (with_name slots held into) label (option_map (assigned m into) o) (option_map (assigned other (slot_of slots into)) x)) (sym e) (by o)
    where
      by : (x : Option Value) → ActsSlotted slots names (with_name slots held into) label (option_map (assigned m into) x) (option_map (assigned other (slot_of slots into)) x)
      by None = tt
      by (Some v) = value_slotted into v v slot refl

  chosen_slotted : (tape : List ℕ) (into : ℕ) (type : IrType) → HasSlot slots names (length held) into
      → IsSlottedIn slots names (with_name slots held into) label (frozen tape m into type Poison) (frozen tape other (slot_of slots into) type Poison)
  chosen_slotted tape into (type.Int width) slot =
      let choice = choice_of (type.Int width) tape m in
      assigned_slotted slots names held label (with_taken m choice) slotted agrees here into choice.value choice.value slot refl
  chosen_slotted tape into type.Ptr slot =
      let choice = choice_of type.Ptr tape m in
      assigned_slotted slots names held label (with_taken m choice) slotted agrees here into choice.value choice.value slot refl

  frozen_slotted : (tape : List ℕ) (into : ℕ) (type : IrType) (v w : Value) → HasSlot slots names (length held) into → w ≡ v
      → IsSlottedIn slots names (with_name slots held into) label (frozen tape m into type v) (frozen tape other (slot_of slots into) type w)
  frozen_slotted tape into type v w slot e = subst (λ (x : Value). IsSlottedIn slots names (with_name slots held into) label (frozen tape m into type v) (frozen tape other (slot_of slots into) type x)) (sym e) (by v)
    where
      by : (x : Value) → IsSlottedIn slots names (with_name slots held into) label (frozen tape m into type x) (frozen tape other (slot_of slots into) type x)
      by (Num n) = value_slotted into (Num n) (Num n) slot refl
      by Poison = chosen_slotted tape into type slot
      by (value.Ptr p) = value_slotted into (value.Ptr p) (value.Ptr p) slot refl

  allocated_slotted : (into number : ℕ) (type : MemoryType) (align : ℕ) → HasSlot slots names (length held) into
      → IsSlottedIn slots names (with_name slots held into) label (allocated m into number type align) (allocated other (slot_of slots into) number type align)
  allocated_slotted into number type align slot =
      let made = record m { memory = after_alloca m.memory (Local m.turn number) (object_size type) align } in
      let address : Value = value.Ptr (record { block = Local m.turn number; offset = 0 }) in
      assigned_slotted slots names held label made slotted agrees here into address address slot refl

  loaded_slotted : (into : ℕ) (l k : Loaded) → HasSlot slots names (length held) into → k ≡ l → ActsSlotted slots names (with_name slots held into) label (loaded m into l) (loaded other (slot_of slots into) k)
  loaded_slotted into l k slot e = subst (λ (x : Loaded). ActsSlotted slots names (with_name slots held into) label (loaded m into l) (loaded other (slot_of slots into) x)) (sym e) (by l)
    where
      by : (x : Loaded) → ActsSlotted slots names (with_name slots held into) label (loaded m into x) (loaded other (slot_of slots into) x)
      by load.Ub = tt
      by (load.Done v) = value_slotted into v v slot refl

  stored_slotted : (memory after : List MemoryBlock) (s t : Stored) → after ≡ memory → t ≡ s → ActsSlotted slots names held label (stored m memory s) (stored other after t)
  stored_slotted memory after s t e d =
      let both : stored other after t ≡ stored other memory s = λ i. stored other (e i) (d i) in
      subst (λ (x : Option Machine). ActsSlotted slots names held label (stored m memory s) x) (sym both) (by s)
    where
      by : (x : Stored) → ActsSlotted slots names held label (stored m memory x) (stored other memory x)
      by store.Ub = tt
      by store.Done = (record { slotted = slotted; is = refl; agrees = agrees }, here)

  pub act_slotted : (inst : Inst) → IsRightInst slots names held inst → (tape : List ℕ) → ActsSlotted slots names (holding slots (results_of inst) held) label (act inst tape m) (act (inst_in slots inst) tape other)
  act_slotted (Binary into op width left right) h tape =
      let l = operand_read slots names held m.registers slotted agrees left h.0.0 in
      let r = operand_read slots names held m.registers slotted agrees right h.0.1.0 in
      result_slotted into (value_result op width.bits (operand_value m.registers left) (operand_value m.registers right))
      (value_result op width.bits (operand_value slotted (operand_in slots left)) (operand_value slotted (operand_in slots right))) h.1.0 (λ i. value_result op width.bits (l i) (r i))
  act_slotted (Icmp into predicate same_sign width left right) h tape =
      let l = operand_read slots names held m.registers slotted agrees left h.0.0 in
      let r = operand_read slots names held m.registers slotted agrees right h.0.1.0 in
      value_slotted into (compared predicate same_sign width.bits (operand_value m.registers left) (operand_value m.registers right))
      (compared predicate same_sign width.bits (operand_value slotted (operand_in slots left)) (operand_value slotted (operand_in slots right))) h.1.0 (λ i. compared predicate same_sign width.bits (l i) (r i))
  act_slotted (Cast into cast from operand to) h tape =
      let o = operand_read slots names held m.registers slotted agrees operand h.0.0 in
      value_slotted into (cast_value cast from.bits to.bits (operand_value m.registers operand)) (cast_value cast from.bits to.bits (operand_value slotted (operand_in slots operand))) h.1.0
      (λ i. cast_value cast from.bits to.bits (o i))
  act_slotted (Select into condition if_true if_false) h tape =
      let c = operand_read slots names held m.registers slotted agrees condition h.0.0 in
      let l = typed_read slots names held m.registers slotted agrees if_true h.0.1.0 in
      let r = typed_read slots names held m.registers slotted agrees if_false h.0.1.1.0 in
      value_slotted into (selected (operand_value m.registers condition) (typed_operand_value m.registers if_true) (typed_operand_value m.registers if_false))
      (selected (operand_value slotted (operand_in slots condition)) (typed_operand_value slotted (typed_in slots if_true)) (typed_operand_value slotted (typed_in slots if_false))) h.1.0
      (λ i. selected (c i) (l i) (r i))
  act_slotted (Freeze into type operand) h tape =
      let o = operand_read slots names held m.registers slotted agrees operand h.0.0 in
      frozen_slotted tape into type (typed_value type (operand_value m.registers operand)) (typed_value type (operand_value slotted (operand_in slots operand))) h.1.0 (ap (typed_value type) o)
  act_slotted (Alloca into number type align) h tape = allocated_slotted into number type align h.1.0
  act_slotted (Load into type pointer align) h tape =
      let p = operand_read slots names held m.registers slotted agrees pointer h.0.0 in
      loaded_slotted into (load_result m.memory (operand_value m.registers pointer) (access_of type) align) (load_result m.memory (operand_value slotted (operand_in slots pointer)) (access_of type) align) h.1.0
      (λ i. load_result m.memory (p i) (access_of type) align)
  act_slotted (Store v pointer align) h tape =
      let w = typed_read slots names held m.registers slotted agrees v h.0.0 in
      let p = operand_read slots names held m.registers slotted agrees pointer h.0.1.0 in
      stored_slotted (after_store m.memory (typed_operand_value m.registers v) (access_of v.of_type) (operand_value m.registers pointer) align)
      (after_store m.memory (typed_operand_value slotted (typed_in slots v)) (access_of v.of_type) (operand_value slotted (operand_in slots pointer)) align)
      (store_result m.memory (access_of v.of_type) (operand_value m.registers pointer) align) (store_result m.memory (access_of v.of_type) (operand_value slotted (operand_in slots pointer)) align)
      (λ i. after_store m.memory (w i) (access_of v.of_type) (p i) align) (λ i. store_result m.memory (access_of v.of_type) (p i) align)
  act_slotted (GetElementPtr into inbounds nuw type base indices) h tape =
      let b = operand_read slots names held m.registers slotted agrees base h.0.0 in
      let n = indices_read slots names held m.registers slotted agrees type 0 indices h.0.1 in
      value_slotted into (gep_result m.memory (operand_value m.registers base) (index_values m.registers type 0 indices) inbounds nuw)
      (gep_result m.memory (operand_value slotted (operand_in slots base)) (index_values slotted type 0 (map (index_in slots) indices)) inbounds nuw) h.1.0 (λ i. gep_result m.memory (b i) (n i) inbounds nuw)
