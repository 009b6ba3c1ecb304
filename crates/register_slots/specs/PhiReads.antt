-- Which names the phis read where a block is left: a table with a row for each label.
use Rattle.std.specs.Prelude.{◌≡◌, ℕ, List, [], Option, Some, nat_eq, slice_get, slice_index_or}
use Rattle.std.specs.List.{AllByRecursion, Contains, find}
use Rattle.ir_tree.specs.declared.tree.Operand.{Operand}
use Rattle.ir_tree.specs.declared.tree.Operand.TheVariants as operand
use Rattle.ir_tree.specs.declared.tree.PhiEntry.{PhiEntry}
use Rattle.ir_tree.specs.declared.tree.Phi.{Phi}
use Rattle.ir_tree.specs.declared.tree.Block.{Block}
use Rattle.ir_tree.specs.declared.tree.Function.{Function}
use Rattle.register_slots.specs.Allocation.{IsEntryHeld}

-- the rows still have what they had
abbrev pub Grows : (old new : List (List ℕ)) → Type 0
Grows old new = (at name : ℕ) → Contains (slice_index_or old at []) name → Contains (slice_index_or new at []) name

abbrev pub IsReadNoted : List (List ℕ) → ℕ → Operand → Type 0
IsReadNoted rows from (operand.Local name) = Contains (slice_index_or rows from []) name
IsReadNoted rows from (operand.Number n) = Unit {0}
IsReadNoted rows from operand.Null = Unit {0}
IsReadNoted rows from operand.Poison = Unit {0}
IsReadNoted rows from operand.Undef = Unit {0}

-- what the entry reads is in the row of its label
abbrev pub IsEntryNoted : List (List ℕ) → PhiEntry → Type 0
IsEntryNoted rows entry = IsReadNoted rows entry.from entry.operand

abbrev pub IsPhiNoted : List (List ℕ) → Phi → Type 0
IsPhiNoted rows phi = AllByRecursion (IsEntryNoted rows) phi.entries

abbrev pub IsBlockNoted : List (List ℕ) → Block → Type 0
IsBlockNoted rows b = AllByRecursion (IsPhiNoted rows) b.phis

-- ---- what is held

-- what these phis read where the block of a label is left is held there
abbrev pub ArePhisHeld : List ℕ → List (Option ℕ) → ℕ → List Phi → Type 0
ArePhisHeld slots held from phis = AllByRecursion (λ (phi : Phi). IsEntryHeld slots held (find (λ (e : PhiEntry). nat_eq e.from from) phi.entries)) phis

-- and what those of the block at a position read
abbrev pub AreEntriesHeld : Function → List ℕ → List (Option ℕ) → (from at : ℕ) → Type 0
AreEntriesHeld f slots held from at = (b : Block) → slice_get f.blocks at ≡ Some b → ArePhisHeld slots held from b.phis
