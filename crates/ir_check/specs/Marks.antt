-- What is required of a phi's entries, and what is marked of labels while the entries are walked.
use Rattle.std.specs.Prelude.{◌≡◌, ◌⊎◌, ◌↔◌, ◌<◌, ℕ, Bool, true, false, ◌==◌, if◌then◌else◌, List, [], map, length, slice_get, slice_index_or, Some}
use Rattle.std.specs.List.{Contains}
use Rattle.ir_tree.specs.declared.tree.IrType.{IrType}
use Rattle.ir_tree.specs.declared.tree.Operand.{Operand}
use Rattle.ir_tree.specs.declared.tree.PhiEntry.{PhiEntry}
use Rattle.ir_tree.specs.declared.tree.Phi.{Phi}
use Rattle.ir_tree.specs.declared.tree.Block.{Block}
use Rattle.ir_tree.specs.declared.tree.Function.{Function}
use Rattle.ir_tree.specs.Flow.{targets}
use Rattle.ir_tree.specs.WellFormed.{is_same_operand, HasTwoOperands, ComesFromPredecessors}
use Rattle.ir_check.specs.declared.marks.Mark.{Mark}
use Rattle.ir_check.specs.declared.marks.Mark.TheVariants.{Stranger, Awaited, Given}
use Rattle.ir_check.specs.declared.marks.Slot.{Slot}

-- ---- a phi and the predecessors of its block

-- the phi's blocks are not the predecessors, or one of them has two operands
abbrev pub IsUnfit : List ℕ → Phi → Type 0
IsUnfit predecessors phi =
    (((label : ℕ) → Contains (map (λ (entry : PhiEntry). entry.from) phi.entries) label ↔ Contains predecessors label) → ⊥) ⊎ HasTwoOperands phi

-- the entry comes from no predecessor, or one of those that were seen comes from the same block with another operand
abbrev pub IsUnfitEntry : List ℕ → IrType → List PhiEntry → PhiEntry → Type 0
IsUnfitEntry predecessors of_type seen entry =
    (Contains predecessors entry.from → ⊥) ⊎ ((other : PhiEntry) × Contains seen other × (other.from ≡ entry.from) × (is_same_operand of_type other.operand entry.operand ≡ false))

abbrev pub HasUnfitEntry : List ℕ → IrType → List PhiEntry → Type 0
HasUnfitEntry predecessors of_type entries = (entry : PhiEntry) × Contains entries entry × IsUnfitEntry predecessors of_type entries entry

-- the block has a phi at this index that doesn't fit its predecessors
abbrev pub IsUnfitAt : Function → ℕ → ℕ → Type 0
IsUnfitAt f block place =
    (holder : Block) × (slice_get f.blocks block ≡ Some holder) × (phi : Phi) × (slice_get holder.phis place ≡ Some phi) × ((ComesFromPredecessors f holder phi → ⊥) ⊎ HasTwoOperands phi)

-- ---- predecessors

-- one of these blocks has the label, and may be left for the next
pub record LeadsIn (blocks : List Block) (label next : ℕ) : Type 0 where
  pub block : Block
  pub stands : Contains blocks block
  pub labelled : block.label ≡ label
  pub leads : Contains (targets block.terminator) next

-- for each label of the table the labels of the blocks that may be left for it, among these blocks
pub record ArePredecessors (blocks : List Block) (table : List (List ℕ)) : Type 0 where
  pub each : (next label : ℕ) → next < length table → Contains (slice_index_or table next []) label ↔ LeadsIn blocks label next

-- ---- marks

-- no entry comes from the block of the label
abbrev pub HasNoEntry : List PhiEntry → ℕ → Type 0
HasNoEntry entries label = (entry : PhiEntry) → Contains entries entry → entry.from ≡ label → ⊥

-- an entry comes from there with this operand, and none with another one
pub record HasOneOperand (of_type : IrType) (entries : List PhiEntry) (label : ℕ) (operand : Operand) : Type 0 where
  pub entry : PhiEntry
  pub stands : Contains entries entry
  pub comes : entry.from ≡ label
  pub gives : entry.operand ≡ operand
  pub same : (other : PhiEntry) → Contains entries other → other.from ≡ label → is_same_operand of_type operand other.operand ≡ true

-- what a label's mark says of the predecessors, and of the entries that were seen
abbrev pub IsMarkOf : List ℕ → IrType → List PhiEntry → ℕ → Mark → Type 0
IsMarkOf predecessors of_type seen label Stranger = (Contains predecessors label → ⊥) × HasNoEntry seen label
IsMarkOf predecessors of_type seen label Awaited = Contains predecessors label × HasNoEntry seen label
IsMarkOf predecessors of_type seen label (Given operand) = Contains predecessors label × HasOneOperand of_type seen label operand

-- each label has its mark
pub record AreMarked (predecessors : List ℕ) (of_type : IrType) (seen : List PhiEntry) (marks : List Mark) : Type 0 where
  pub each : (label : ℕ) → IsMarkOf predecessors of_type seen label (slice_index_or marks label Stranger)

abbrev pub is_awaited : Mark → Bool
is_awaited Stranger = false
is_awaited Awaited = true
is_awaited (Given operand) = false

-- ---- rounds

-- a mark of an earlier round says nothing
abbrev pub mark_in : ℕ → Slot → Mark
mark_in round slot = if slot.round == round then slot.mark else Stranger

abbrev pub marks_in : ℕ → List Slot → List Mark
marks_in round slots = map (mark_in round) slots
