-- How large a function may be, and which functions can be run.
use Rattle.std.specs.Prelude.{◌≡◌, ℕ, ◌+◌, ◌<◌, ◌≤◌, true, nat_eq, List, [], ◌∷◌, All, length, sum_by, Option, is_some}
use Rattle.std.specs.List.{list_any}
use Rattle.ir_tree.specs.declared.tree.Block.{Block}
use Rattle.ir_tree.specs.declared.tree.Phi.{Phi}
use Rattle.ir_tree.specs.declared.tree.Terminator.{Terminator}
use Rattle.ir_tree.specs.declared.tree.Terminator.TheVariants.{Return, Branch, CondBranch, Switch, Unreachable}
use Rattle.ir_tree.specs.declared.tree.IrType.{IrType}
use Rattle.ir_tree.specs.declared.tree.Inst.{Inst}
use Rattle.ir_tree.specs.declared.tree.Inst.TheVariants as inst
use Rattle.ir_tree.specs.declared.tree.Function.{Function}
use Rattle.ir_tree.specs.Types.{nested_size, object_size}

-- how many instructions a block has, phis and its terminator counted
abbrev pub instructions_of : Block → ℕ
instructions_of b = length b.phis + (length b.insts + 1)

abbrev pub instructions_in : Function → ℕ
instructions_in f = sum_by instructions_of f.blocks

-- how many cases a block ends in; 0 where it ends in no switch
abbrev pub cases_in : Terminator → ℕ
cases_in (Return returned) = 0
cases_in (Branch to) = 0
cases_in (CondBranch condition if_true if_false) = 0
cases_in (Switch width operand default cases) = length cases
cases_in Unreachable = 0

abbrev pub HasFewCases : Block → Type 0
HasFewCases b = cases_in b.terminator ≤ 256

abbrev pub HasFewEntries : Block → Type 0
HasFewEntries b = All (λ (phi : Phi). length phi.entries ≤ 16777216) b.phis

-- an alignment is a power of two from 1 to 4,096
abbrev pub alignments : List ℕ
alignments = 1 ∷ 2 ∷ 4 ∷ 8 ∷ 16 ∷ 32 ∷ 64 ∷ 128 ∷ 256 ∷ 512 ∷ 1024 ∷ 2048 ∷ 4096 ∷ []

abbrev pub IsAlignment : ℕ → Type 0
IsAlignment align = list_any (nat_eq align) alignments ≡ true

-- each of the nested arrays, the outermost first, has at most 1,048,576 bytes
abbrev pub HasSmallArrays : List ℕ → IrType → Type 0
HasSmallArrays [] element = Unit {0}
HasSmallArrays (n ∷ lengths) element = (nested_size (n ∷ lengths) element ≤ 1048576) × HasSmallArrays lengths element

-- an alloca makes at most 64 bytes, and a getelementptr has at most 9 indices: one of objects, and one of each array
abbrev pub HasSmallTypes : Inst → Type 0
HasSmallTypes (inst.Alloca into number type align) = (length type.lengths ≤ 8) × (object_size type ≤ 64) × IsAlignment align
HasSmallTypes (inst.Load into type pointer align) = IsAlignment align
HasSmallTypes (inst.Store value pointer align) = IsAlignment align
HasSmallTypes (inst.GetElementPtr into inbounds nuw type base indices) = (length type.lengths ≤ 8) × (length indices ≤ 9) × HasSmallArrays type.lengths type.element
HasSmallTypes _ = Unit {0}

abbrev pub HasSmallObjects : Block → Type 0
HasSmallObjects b = All HasSmallTypes b.insts

pub record IsWithinLimits (f : Function) : Type 0 where
  pub parameters : length f.parameters ≤ 16
  pub instructions : instructions_in f ≤ 65536
  pub cases : All HasFewCases f.blocks
  pub entries : All HasFewEntries f.blocks
  pub objects : All HasSmallObjects f.blocks

-- ---- what can be run

-- a `ret` has a value exactly where the function's header has a type
abbrev pub FitsReturn : Option IrType → Terminator → Type 0
FitsReturn returns (Return returned) = is_some returned ≡ is_some returns
FitsReturn returns (Branch to) = Unit {0}
FitsReturn returns (CondBranch condition if_true if_false) = Unit {0}
FitsReturn returns (Switch width operand default cases) = Unit {0}
FitsReturn returns Unreachable = Unit {0}

abbrev pub ReturnsFit : Function → Type 0
ReturnsFit f = All (λ (b : Block). FitsReturn f.returns b.terminator) f.blocks

-- an alloca's number is below the limit on instructions
abbrev pub HasSmallNumber : Inst → Type 0
HasSmallNumber (inst.Alloca into number type align) = number < 65536
HasSmallNumber _ = Unit {0}

abbrev pub HasSmallNumbers : Block → Type 0
HasSmallNumbers b = All HasSmallNumber b.insts

pub record CanRun (f : Function) : Type 0 where
  pub returns : ReturnsFit f
  pub objects : All HasSmallObjects f.blocks
  pub numbers : All HasSmallNumbers f.blocks
