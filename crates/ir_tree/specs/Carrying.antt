-- Which registers carry undef, and where no use of one may be. Each use of undef may be another value (LLVM Language
-- Reference, "Undefined Values"). So a register that an operation makes from undef holds a tree of operations whose
-- leaves are undef, and each use of the register may be another value too.
use Rattle.std.specs.Prelude.{◌≡◌, ◌+◌, ◌*◌, ◌<◌, ◌≤◌, ◌⊎◌, ◌==◌, ◌||◌, ℕ, zero, suc, min, Bool, true, false, IsTrue, nat_lt, List, [], ◌∷◌, length, sum_by, slice_get, Option, Some, None}
use Rattle.std.specs.List.{find, flat_map, list_any}
use Rattle.ir_tree.specs.declared.tree.IrType.{IrType}
use Rattle.ir_tree.specs.declared.tree.IrType.TheVariants as type
use Rattle.ir_tree.specs.declared.tree.Operand.{Operand}
use Rattle.ir_tree.specs.declared.tree.Operand.TheVariants.{Local, Number, Null, Poison, Undef}
use Rattle.ir_tree.specs.declared.tree.Op.{Op}
use Rattle.ir_tree.specs.declared.tree.Op.TheVariants as op
use Rattle.ir_tree.specs.declared.tree.Inst.{Inst}
use Rattle.ir_tree.specs.declared.tree.Inst.TheVariants as inst
use Rattle.ir_tree.specs.declared.tree.Terminator.{Terminator}
use Rattle.ir_tree.specs.declared.tree.Terminator.TheVariants.{Return, Branch, CondBranch, Switch, Unreachable}
use Rattle.ir_tree.specs.declared.tree.Block.{Block}
use Rattle.ir_tree.specs.declared.tree.Function.{Function}
use Rattle.ir_tree.specs.declared.sites.Part.{Part}
use Rattle.ir_tree.specs.declared.sites.Part.TheVariants as part
use Rattle.ir_tree.specs.declared.sites.Site.TheVariants.{Defines, Uses}
use Rattle.ir_tree.specs.Flow.{results_of}
use Rattle.ir_tree.specs.Sites.{sites, parts}

-- ---- how many leaves a register has

-- the operands whose undef the result carries: freeze chooses one value, and memory keeps one
abbrev pub carrying_operands : Inst → List Operand
carrying_operands (inst.Binary into op width left right) = left ∷ right ∷ []
carrying_operands (inst.Icmp into predicate same_sign width left right) = left ∷ right ∷ []
carrying_operands (inst.Cast into cast from operand to) = operand ∷ []
carrying_operands (inst.Select into condition if_true if_false) = condition ∷ if_true.operand ∷ if_false.operand ∷ []
carrying_operands (inst.Freeze into type operand) = []
carrying_operands (inst.Alloca into number type align) = []
carrying_operands (inst.Load into type pointer align) = []
carrying_operands (inst.Store value pointer align) = []
carrying_operands (inst.GetElementPtr into inbounds nuw type base indices) = []

-- the instructions of a function, in text order
abbrev pub insts_of : Function → List Inst
insts_of f = flat_map (λ (b : Block). b.insts) f.blocks

-- the instruction's result is the name
abbrev pub makes : ℕ → Inst → Bool
makes name i = list_any (λ (result : ℕ). result == name) (results_of i)

abbrev pub carried_from : Option Inst → List Operand
carried_from None = []
carried_from (Some i) = carrying_operands i

-- the operands whose undef a name carries, those of the first of the instructions that makes it
abbrev pub carried_by : List Inst → ℕ → List Operand
carried_by insts name = carried_from (find (makes name) insts)

-- The leaves of an operand, by those of others: an undef is one, and a name has those of the operands
-- that it carries, each as often as it occurs. Past 64 they are not counted on.
abbrev pub leaves_by : List Inst → (Operand → ℕ) → Operand → ℕ
leaves_by insts count (Local name) = min 65 (sum_by count (carried_by insts name))
leaves_by insts count Undef = 1
leaves_by insts count (Number n) = 0
leaves_by insts count Null = 0
leaves_by insts count Poison = 0

-- the leaves that are counted in this number of steps
unfoldable pub leaves_within : ℕ → List Inst → Operand → ℕ
leaves_within zero insts o = 0
leaves_within (suc n) insts o = leaves_by insts (leaves_within n insts) o

-- How many leaves an operand has; 65 says more than 64. After these steps no count rises any more:
-- while one does, so does that of some instruction, and each of those rises at most 65 times.
unfoldable pub leaf_count : Function → Operand → ℕ
leaf_count f o = leaves_within (66 * (length (insts_of f) + 1)) (insts_of f) o

-- an operand is undef, or carries it
abbrev pub carries : Function → Operand → Bool
carries f o = nat_lt 0 (leaf_count f o)

-- ---- where no use may carry undef

abbrev pub is_division : Op → Bool
is_division (op.Add flags) = false
is_division (op.Sub flags) = false
is_division (op.Mul flags) = false
is_division (op.UnsignedDiv exact) = true
is_division op.UnsignedRem = true
is_division (op.SignedDiv exact) = true
is_division op.SignedRem = true
is_division (op.ShiftLeft flags) = false
is_division (op.LogicalShiftRight exact) = false
is_division (op.ArithmeticShiftRight exact) = false
is_division op.And = false
is_division (op.Or disjoint) = false
is_division op.Xor = false

abbrev pub is_pointer : IrType → Bool
is_pointer (type.Int width) = false
is_pointer type.Ptr = true

-- no operand of the instruction may carry undef: whether it divides by 0, which address it uses, or
-- which pointer it gives would depend on a choice
abbrev pub refuses_undef : Inst → Bool
refuses_undef (inst.Binary into op width left right) = is_division op
refuses_undef (inst.Icmp into predicate same_sign width left right) = false
refuses_undef (inst.Cast into cast from operand to) = false
refuses_undef (inst.Select into condition if_true if_false) = is_pointer if_true.of_type || is_pointer if_false.of_type
refuses_undef (inst.Freeze into type operand) = false
refuses_undef (inst.Alloca into number type align) = false
refuses_undef (inst.Load into type pointer align) = true
refuses_undef (inst.Store value pointer align) = true
refuses_undef (inst.GetElementPtr into inbounds nuw type base indices) = true

-- the same of a block's end: a branch on undef has undefined behaviour, and so has a return of undef
-- where the return is noundef
abbrev pub end_refuses_undef : Bool → Terminator → Bool
end_refuses_undef no_undef (Return returned) = no_undef
end_refuses_undef no_undef (Branch to) = false
end_refuses_undef no_undef (CondBranch condition if_true if_false) = true
end_refuses_undef no_undef (Switch width operand default cases) = true
end_refuses_undef no_undef Unreachable = false

-- no operand in this part of the function may carry undef
abbrev pub RefusesUndef : Function → Part → Type 0
RefusesUndef f part.Header = ⊥
RefusesUndef f part.Parameter = ⊥
RefusesUndef f (part.Label k) = ⊥
RefusesUndef f (part.Phi k j) = Unit {0}
RefusesUndef f (part.Inst k j) = (b : Block) × (slice_get f.blocks k ≡ Some b) × (i : Inst) × (slice_get b.insts j ≡ Some i) × IsTrue (refuses_undef i)
RefusesUndef f (part.End k) = (b : Block) × (slice_get f.blocks k ≡ Some b) × IsTrue (end_refuses_undef f.returns_no_undef b.terminator)

-- the site is a use of a name that carries undef, where none may
pub record UsesCarried (f : Function) (n : ℕ) : Type 0 where
  pub type : IrType
  pub name : ℕ
  pub here : slice_get (sites f) n ≡ Some (Uses type name)
  pub carried : IsTrue (carries f (Local name))
  pub part : Part
  pub stands : slice_get (parts f) n ≡ Some part
  pub refuses : RefusesUndef f part

-- the site is a result that has more than 64 leaves
pub record HasManyLeaves (f : Function) (n : ℕ) : Type 0 where
  pub type : IrType
  pub name : ℕ
  pub here : slice_get (sites f) n ≡ Some (Defines (Some type) name)
  pub many : 64 < leaf_count f (Local name)

abbrev pub UsesUndef : Function → ℕ → Type 0
UsesUndef f n = UsesCarried f n ⊎ HasManyLeaves f n

-- ---- laws

-- the counts are those that the rule gives, by the counts of others
abbrev pub AreLeafCounts : Function → (Operand → ℕ) → Type 0
AreLeafCounts f count = (o : Operand) → count o ≡ leaves_by (insts_of f) count o

-- leaf_count has counts that agree with the rule
abbrev pub LeafCountsAgree : Type 0
LeafCountsAgree = (f : Function) → AreLeafCounts f (leaf_count f)

-- and the least ones, so that names that depend on themselves alone carry nothing
abbrev pub LeafCountsAreLeast : Type 0
LeafCountsAreLeast = (f : Function) (count : Operand → ℕ) → AreLeafCounts f count → (o : Operand) → leaf_count f o ≤ count o
