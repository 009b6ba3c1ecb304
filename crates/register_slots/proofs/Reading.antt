-- What is read of names that are held is read of their slots.
use Rattle.register_slots.proofs.Common.{◌≡◌, ℕ, ◌+◌, List, [], ◌∷◌, map, nat_eq, Bool, true, false, cond, Option, Some, refl, ap, AllByRecursion, find, option_map_or, Operand, MemoryType, GepIndex, TypedOperand, PhiEntry, indexed_size, Value, Poison, operand_value, cut_value, typed_value, typed_operand_value, index_values, operand_in, typed_in, index_in, entry_in, IsReadHeld, IsEntryHeld}
use Rattle.ir_tree.specs.declared.tree.Operand.TheVariants as operand
use Rattle.register_slots.proofs.Registers.{Agrees}

module _ (slots : List ℕ) (names : ℕ) (held : List (Option ℕ)) (registers slotted : List Value) (agrees : Agrees slots names held registers slotted) where
  pub operand_read : (o : Operand) → IsReadHeld slots held o → operand_value slotted (operand_in slots o) ≡ operand_value registers o
  operand_read (operand.Local name) holds = agrees.same name holds
  operand_read (operand.Number n) holds = refl
  operand_read operand.Null holds = refl
  operand_read operand.Poison holds = refl
  operand_read operand.Undef holds = refl

  pub typed_read : (t : TypedOperand) → IsReadHeld slots held t.operand → typed_operand_value slotted (typed_in slots t) ≡ typed_operand_value registers t
  typed_read t holds = ap (typed_value t.of_type) (operand_read t.operand holds)

  pub indices_read : (type : MemoryType) (n : ℕ) (indices : List GepIndex) → AllByRecursion (IsReadHeld slots held) (map (λ (i : GepIndex). i.operand) indices)
      → index_values slotted type n (map (index_in slots) indices) ≡ index_values registers type n indices
  indices_read type n [] holds = refl
  indices_read type n (index ∷ indices) holds =
      λ i. record { value = cut_value index.width.bits (operand_read index.operand holds.0 i); width = index.width; scale = indexed_size type n } ∷ indices_read type (n + 1) indices holds.1 i

  abbrev value_in : List Value → Option PhiEntry → Value
  value_in values entry = option_map_or (λ (e : PhiEntry). operand_value values e.operand) entry Poison

  abbrev entry_for : ℕ → List PhiEntry → Option PhiEntry
  entry_for from entries = find (λ (e : PhiEntry). nat_eq e.from from) entries

  pub entry_read : (from : ℕ) (entries : List PhiEntry) → IsEntryHeld slots held (entry_for from entries) → value_in slotted (entry_for from (map (entry_in slots) entries)) ≡ value_in registers (entry_for from entries)
  entry_read from [] holds = refl
  entry_read from (entry ∷ entries) holds = by (nat_eq entry.from from) (entry_read from entries) holds
    where
      by : (here : Bool) → (IsEntryHeld slots held (entry_for from entries) → value_in slotted (entry_for from (map (entry_in slots) entries)) ≡ value_in registers (entry_for from entries))
          → IsEntryHeld slots held (cond here (Some entry) (entry_for from entries))
          → value_in slotted (cond here (Some (entry_in slots entry)) (entry_for from (map (entry_in slots) entries))) ≡ value_in registers (cond here (Some entry) (entry_for from entries))
      by true rest h = operand_read entry.operand h
      by false rest h = rest h
