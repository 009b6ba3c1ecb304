-- How heavy a pair is, and when it is too heavy to be judged.
use Rattle.std.specs.Prelude.{ℕ, zero, suc, ◌+◌, ◌*◌, ◌<◌, if◌then◌else◌, length, sum_by, Option, Some, None}
use Rattle.ir_tree.specs.declared.tree.IrType.{IrType}
use Rattle.ir_tree.specs.declared.tree.IrType.TheVariants as type
use Rattle.ir_tree.specs.declared.tree.Op.{Op}
use Rattle.ir_tree.specs.declared.tree.Op.TheVariants.{Add, Sub, Mul, UnsignedDiv, UnsignedRem, SignedDiv, SignedRem, ShiftLeft, LogicalShiftRight, ArithmeticShiftRight, And, Or, Xor}
use Rattle.ir_tree.specs.declared.tree.Operand.{Operand}
use Rattle.ir_tree.specs.declared.tree.Operand.TheVariants as operand
use Rattle.ir_tree.specs.declared.tree.Inst.{Inst}
use Rattle.ir_tree.specs.declared.tree.Inst.TheVariants.{Binary, Icmp, Cast, Select, Freeze, Alloca, Load, Store, GetElementPtr}
use Rattle.ir_tree.specs.declared.tree.Phi.{Phi}
use Rattle.ir_tree.specs.declared.tree.Terminator.{Terminator}
use Rattle.ir_tree.specs.declared.tree.Terminator.TheVariants as terminator
use Rattle.ir_tree.specs.declared.tree.Block.{Block}
use Rattle.ir_tree.specs.declared.tree.Function.{Function}
use Rattle.ir_tree.specs.Types.{store_size, object_size}
use Rattle.ir_tree.specs.Carrying.{insts_of, carries, carrying_operands}
use Rattle.lowering.specs.Lowered.{maker_of}
use Rattle.points.specs.declared.point.Bounds.{Bounds}
use Rattle.points.specs.declared.point.Budget.{Budget}
use Rattle.verdicts.specs.Pair.{Functions}

abbrev pub type_width : IrType → ℕ
type_width (type.Int width) = width.bits
type_width type.Ptr = 64

-- a product or a division costs the square of its width
abbrev pub op_cost : Op → ℕ → ℕ
op_cost (Add flags) n = n
op_cost (Sub flags) n = n
op_cost (Mul flags) n = n * n
op_cost (UnsignedDiv exact) n = n * n
op_cost UnsignedRem n = n * n
op_cost (SignedDiv exact) n = n * n
op_cost SignedRem n = n * n
op_cost (ShiftLeft flags) n = n
op_cost (LogicalShiftRight exact) n = n
op_cost (ArithmeticShiftRight exact) n = n
op_cost And n = n
op_cost (Or disjoint) n = n
op_cost Xor n = n

-- ---- the bytes of a memory

-- those that an instruction makes
abbrev pub made_bytes : Inst → ℕ
made_bytes (Binary into op width left right) = 0
made_bytes (Icmp into predicate same_sign width left right) = 0
made_bytes (Cast into cast from operand to) = 0
made_bytes (Select into condition if_true if_false) = 0
made_bytes (Freeze into type operand) = 0
made_bytes (Alloca into number type align) = object_size type
made_bytes (Load into type pointer align) = 0
made_bytes (Store v pointer align) = 0
made_bytes (GetElementPtr into inbounds nuw type base indices) = 0

abbrev pub made_in : Block → ℕ
made_in b = sum_by made_bytes b.insts

-- those of the given blocks, and of each alloca once for each count of backward jumps
abbrev pub memory_bytes : Bounds → Function → ℕ
memory_bytes bounds f = bounds.blocks * bounds.bytes + (bounds.turns + 1) * sum_by made_in f.blocks

-- ---- the cost of an instruction

-- with `memory` bytes of memory; a load or a store looks at each of them for each byte that it accesses
abbrev pub inst_cost : ℕ → Inst → ℕ
inst_cost memory (Binary into op width left right) = op_cost op width.bits
inst_cost memory (Icmp into predicate same_sign width left right) = width.bits
inst_cost memory (Cast into cast from operand to) = to.bits
inst_cost memory (Select into condition if_true if_false) = type_width if_true.of_type
inst_cost memory (Freeze into type operand) = type_width type
inst_cost memory (Alloca into number type align) = 1 + object_size type
inst_cost memory (Load into type pointer align) = 64 + store_size type * memory
inst_cost memory (Store v pointer align) = 64 + store_size v.of_type * memory
inst_cost memory (GetElementPtr into inbounds nuw type base indices) = 64 * (length indices + 1)

abbrev pub phi_cost : Phi → ℕ
phi_cost phi = type_width phi.of_type * length phi.entries

-- a switch compares its operand with each case
abbrev pub end_cost : Terminator → ℕ
end_cost (terminator.Return returned) = 1
end_cost (terminator.Branch to) = 1
end_cost (terminator.CondBranch condition if_true if_false) = 1
end_cost (terminator.Switch width operand default cases) = 1 + length cases * width.bits
end_cost terminator.Unreachable = 1

-- ---- trees

-- the instruction that makes a register, with what its operands cost; one whose result carries undef accesses no memory
abbrev pub made_cost : (Operand → ℕ) → Option Inst → ℕ
made_cost cost None = 0
made_cost cost (Some i) = inst_cost 0 i + sum_by cost (carrying_operands i)

-- in this number of steps back along the operands
unfoldable pub tree_cost_within : ℕ → Function → Operand → ℕ
tree_cost_within zero f o = 0
tree_cost_within (suc n) f (operand.Local name) = if carries f (operand.Local name) then made_cost (tree_cost_within n f) (maker_of f name) else 0
tree_cost_within (suc n) f (operand.Number a) = 0
tree_cost_within (suc n) f operand.Null = 0
tree_cost_within (suc n) f operand.Poison = 0
tree_cost_within (suc n) f operand.Undef = 0

-- What the instructions cost that make a register which carries undef, each as often as it is used; in so many steps all
-- of them are reached. Undef itself costs nothing, nor does an operand that carries nothing.
unfoldable pub tree_cost : Function → Operand → ℕ
tree_cost f o = tree_cost_within (66 * (length (insts_of f) + 1)) f o

-- where a register that carries undef is frozen or returned, its tree is computed
abbrev pub sampling_cost : Function → Inst → ℕ
sampling_cost f (Binary into op width left right) = 0
sampling_cost f (Icmp into predicate same_sign width left right) = 0
sampling_cost f (Cast into cast from operand to) = 0
sampling_cost f (Select into condition if_true if_false) = 0
sampling_cost f (Freeze into type operand) = tree_cost f operand
sampling_cost f (Alloca into number type align) = 0
sampling_cost f (Load into type pointer align) = 0
sampling_cost f (Store v pointer align) = 0
sampling_cost f (GetElementPtr into inbounds nuw type base indices) = 0

abbrev pub end_sampling_cost : Function → Terminator → ℕ
end_sampling_cost f (terminator.Return None) = 0
end_sampling_cost f (terminator.Return (Some returned)) = tree_cost f returned.operand
end_sampling_cost f (terminator.Branch to) = 0
end_sampling_cost f (terminator.CondBranch condition if_true if_false) = 0
end_sampling_cost f (terminator.Switch width operand default cases) = 0
end_sampling_cost f terminator.Unreachable = 0

-- ---- the weight

abbrev pub block_cost : Function → ℕ → Block → ℕ
block_cost f memory b =
    sum_by phi_cost b.phis + (sum_by (λ i. inst_cost memory i + sampling_cost f i) b.insts + (end_cost b.terminator + end_sampling_cost f b.terminator))

abbrev pub cost_of : Bounds → Function → ℕ
cost_of bounds f = sum_by (block_cost f (memory_bytes bounds f)) f.blocks

abbrev pub weight_of : Functions → Bounds → ℕ
weight_of pair bounds = (bounds.turns + 1) * (cost_of bounds pair.source + cost_of bounds pair.target)

-- its weight is above the limit
abbrev pub IsHeavy : Functions → Bounds → Budget → Type 0
IsHeavy pair bounds budget = budget.weight < weight_of pair bounds
