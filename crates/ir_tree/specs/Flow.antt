-- Where the blocks of a function lead, and which names they assign. Blocks are numbered from 0 in text order; the first is the entry.
use Rattle.std.specs.Prelude.{◌≡◌, ℕ, List, [], ◌∷◌, ◌++◌, map, ◌==◌}
use Rattle.std.specs.List.{Contains, flat_map, position_or_len}
use Rattle.ir_tree.specs.declared.tree.Inst.{Inst}
use Rattle.ir_tree.specs.declared.tree.Inst.TheVariants.{Binary, Icmp, Cast, Select, Freeze, Alloca, Load, Store, GetElementPtr}
use Rattle.ir_tree.specs.declared.tree.Phi.{Phi}
use Rattle.ir_tree.specs.declared.tree.Case.{Case}
use Rattle.ir_tree.specs.declared.tree.Terminator.{Terminator}
use Rattle.ir_tree.specs.declared.tree.Terminator.TheVariants.{Return, Branch, CondBranch, Switch, Unreachable}
use Rattle.ir_tree.specs.declared.tree.Block.{Block}
use Rattle.ir_tree.specs.declared.tree.Function.{Function}

-- ---- where a block leads

-- the labels of the blocks that may run next
abbrev pub targets : Terminator → List ℕ
targets (Return returned) = []
targets (Branch to) = to ∷ []
targets (CondBranch condition if_true if_false) = if_true ∷ if_false ∷ []
targets (Switch width operand default cases) = default ∷ map (λ (c : Case). c.to) cases
targets Unreachable = []

-- a block of this label may be left for the other one
pub record IsPredecessor (f : Function) (label next : ℕ) : Type 0 where
  pub block : Block
  pub stands : Contains f.blocks block
  pub labelled : block.label ≡ label
  pub leads : Contains (targets block.terminator) next

abbrev pub labels : Function → List ℕ
labels f = map (λ (b : Block). b.label) f.blocks

-- the number of the block with this label; where no block has it, a number that no block has
abbrev pub block_of : Function → ℕ → ℕ
block_of f label = position_or_len (λ (other : ℕ). label == other) (labels f)

-- for each block the numbers of those that may run next
abbrev pub successors : Function → List (List ℕ)
successors f = map (λ (b : Block). map (block_of f) (targets b.terminator)) f.blocks

-- ---- what a block assigns

-- the names that an instruction assigns: a store has no result, and any other one
abbrev pub results_of : Inst → List ℕ
results_of (Binary into op width left right) = into ∷ []
results_of (Icmp into predicate same_sign width left right) = into ∷ []
results_of (Cast into cast from operand to) = into ∷ []
results_of (Select into condition if_true if_false) = into ∷ []
results_of (Freeze into type operand) = into ∷ []
results_of (Alloca into number type align) = into ∷ []
results_of (Load into type pointer align) = into ∷ []
results_of (Store value pointer align) = []
results_of (GetElementPtr into inbounds nuw type base indices) = into ∷ []

-- by its phis and these of its instructions
abbrev pub assigned_with : Block → List Inst → List ℕ
assigned_with b insts = map (λ (phi : Phi). phi.into) b.phis ++ flat_map results_of insts

-- for each block the names that it assigns
abbrev pub assigns : Function → List (List ℕ)
assigns f = map (λ (b : Block). assigned_with b b.insts) f.blocks
