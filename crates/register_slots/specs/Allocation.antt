-- When names may share slots: wherever a name is read, its slot holds it.
use Rattle.std.specs.Prelude.{◌≡◌, ℕ, ◌<◌, List, [], ◌∷◌, length, map, replicate, nat_eq, Option, Some, None, slice_get, slice_set, slice_index_or}
use Rattle.std.specs.List.{AllByRecursion, find}
use Rattle.ir_tree.specs.declared.tree.Operand.{Operand}
use Rattle.ir_tree.specs.declared.tree.Operand.TheVariants as operand
use Rattle.ir_tree.specs.declared.tree.Inst.{Inst}
use Rattle.ir_tree.specs.declared.tree.PhiEntry.{PhiEntry}
use Rattle.ir_tree.specs.declared.tree.Phi.{Phi}
use Rattle.ir_tree.specs.declared.tree.Block.{Block}
use Rattle.ir_tree.specs.declared.tree.Parameter.{Parameter}
use Rattle.ir_tree.specs.declared.tree.Function.{Function}
use Rattle.ir_tree.specs.Flow.{block_of, results_of, targets}
use Rattle.ir_tree.specs.Operands.{operands_at_end, operands_of}
use Rattle.register_slots.specs.Renaming.{slot_of}

-- ---- which name each slot holds, if it holds one

abbrev pub IsHeld : List ℕ → List (Option ℕ) → ℕ → Type 0
IsHeld slots held name = slice_get held (slot_of slots name) ≡ Some (Some name)

-- these names are assigned, one after another
abbrev pub holding : List ℕ → List ℕ → List (Option ℕ) → List (Option ℕ)
holding slots [] held = held
holding slots (name ∷ names) held = holding slots names (slice_set held (slot_of slots name) (Some name))

-- `count` slots that hold these names and nothing else
abbrev pub only_holding : List ℕ → ℕ → List ℕ → List (Option ℕ)
only_holding slots count names = holding slots names (replicate count None)

-- ---- what is read

abbrev pub IsReadHeld : List ℕ → List (Option ℕ) → Operand → Type 0
IsReadHeld slots held (operand.Local name) = IsHeld slots held name
IsReadHeld slots held (operand.Number n) = Unit {0}
IsReadHeld slots held operand.Null = Unit {0}
IsReadHeld slots held operand.Poison = Unit {0}
IsReadHeld slots held operand.Undef = Unit {0}

abbrev pub AreReadHeld : List ℕ → List (Option ℕ) → List Operand → Type 0
AreReadHeld slots held operands = AllByRecursion (IsReadHeld slots held) operands

-- ---- a block

-- one of `names` names, with one of `count` slots
abbrev pub HasSlot : List ℕ → (names count : ℕ) → ℕ → Type 0
HasSlot slots names count name = (name < names) × (slot_of slots name < count)

abbrev pub IsRightInst : List ℕ → (names : ℕ) → List (Option ℕ) → Inst → Type 0
IsRightInst slots names held inst = AreReadHeld slots held (operands_of inst) × AllByRecursion (HasSlot slots names (length held)) (results_of inst)

-- each instruction reads what is held before it
unfoldable pub AreRightInsts : List ℕ → (names : ℕ) → List (Option ℕ) → List Inst → Type 0
AreRightInsts slots names held [] = Unit {0}
AreRightInsts slots names held (inst ∷ insts) = IsRightInst slots names held inst × AreRightInsts slots names (holding slots (results_of inst) held) insts

-- what is held after these instructions
unfoldable pub held_after : List ℕ → List Inst → List (Option ℕ) → List (Option ℕ)
held_after slots [] held = held
held_after slots (inst ∷ insts) held = held_after slots insts (holding slots (results_of inst) held)

-- ---- an edge

abbrev pub IsEntryHeld : List ℕ → List (Option ℕ) → Option PhiEntry → Type 0
IsEntryHeld slots held None = Unit {0}
IsEntryHeld slots held (Some entry) = IsReadHeld slots held entry.operand

-- what the phi reads where the block of this label is left is held there
abbrev pub IsRightPhi : List ℕ → (names : ℕ) → List (Option ℕ) → (from : ℕ) → Phi → Type 0
IsRightPhi slots names held from phi = IsEntryHeld slots held (find (λ (e : PhiEntry). nat_eq e.from from) phi.entries) × HasSlot slots names (length held) phi.into

-- the block is entered from the one of this label, and after its phis these names are held
pub record IsRightEdge (slots : List ℕ) (names : ℕ) (held : List (Option ℕ)) (from : ℕ) (b : Block) (needed : List ℕ) : Type 0 where
  pub phis : AllByRecursion (IsRightPhi slots names held from) b.phis
  pub live : AllByRecursion (IsHeld slots (holding slots (map (λ (phi : Phi). phi.into) b.phis) held)) needed

-- to the block at an index, if there is one; for each block there is a list of names that are held at its entry, after its phis
abbrev pub IsRightJump : Function → List ℕ → List (List ℕ) → List (Option ℕ) → (from at : ℕ) → Type 0
IsRightJump f slots lives held from at = (b : Block) → slice_get f.blocks at ≡ Some b → IsRightEdge slots (length f.names) held from b (slice_index_or lives at [])

-- ---- a function

-- the operands of a block's terminator, and what is read along its edges
pub record IsRightEnd (f : Function) (slots : List ℕ) (lives : List (List ℕ)) (b : Block) (held : List (Option ℕ)) : Type 0 where
  pub operands : AreReadHeld slots held (operands_at_end b.terminator)
  pub jumps : AllByRecursion (λ (label : ℕ). IsRightJump f slots lives held b.label (block_of f label)) (targets b.terminator)

pub record IsRightBlock (f : Function) (slots : List ℕ) (count : ℕ) (lives : List (List ℕ)) (live : List ℕ) (b : Block) : Type 0 where
  pub insts : AreRightInsts slots (length f.names) (only_holding slots count live) b.insts
  pub end : IsRightEnd f slots lives b (held_after slots b.insts (only_holding slots count live))

abbrev pub parameter_names : Function → List ℕ
parameter_names f = map (λ (p : Parameter). p.name) f.parameters

-- `count` slots for the names of a function, with the names that are held at the entry of each block
pub record IsAllocation (f : Function) (slots : List ℕ) (count : ℕ) (lives : List (List ℕ)) : Type 0 where
  pub parameters : AllByRecursion (HasSlot slots (length f.names) count) (parameter_names f)
  pub apart : AllByRecursion (IsHeld slots (only_holding slots count (parameter_names f))) (parameter_names f)
  pub entry : IsRightJump f slots lives (only_holding slots count (parameter_names f)) 0 0
  pub blocks : (at : ℕ) (b : Block) → slice_get f.blocks at ≡ Some b → IsRightBlock f slots count lives (slice_index_or lives at []) b
