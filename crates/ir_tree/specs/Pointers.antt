-- Functions in which no pointer occurs and which use no memory.
use Rattle.std.specs.Prelude.{List, [], ◌∷◌, All, Option, Some, None}
use Rattle.ir_tree.specs.declared.tree.IrType.{IrType}
use Rattle.ir_tree.specs.declared.tree.IrType.TheVariants as type
use Rattle.ir_tree.specs.declared.tree.TypedOperand.{TypedOperand}
use Rattle.ir_tree.specs.declared.tree.Inst.{Inst}
use Rattle.ir_tree.specs.declared.tree.Inst.TheVariants.{Binary, Icmp, Cast, Select, Freeze, Alloca, Load, Store, GetElementPtr}
use Rattle.ir_tree.specs.declared.tree.Phi.{Phi}
use Rattle.ir_tree.specs.declared.tree.Terminator.{Terminator}
use Rattle.ir_tree.specs.declared.tree.Terminator.TheVariants.{Return, Branch, CondBranch, Switch, Unreachable}
use Rattle.ir_tree.specs.declared.tree.Block.{Block}
use Rattle.ir_tree.specs.declared.tree.Parameter.{Parameter}
use Rattle.ir_tree.specs.declared.tree.Function.{Function}

abbrev pub IsInteger : IrType → Type 0
IsInteger (type.Int width) = Unit {0}
IsInteger type.Ptr = ⊥

-- each parameter's type is an integer type
abbrev pub AreIntegers : List Parameter → Type 0
AreIntegers [] = Unit {0}
AreIntegers (p ∷ ps) = IsInteger p.of_type × AreIntegers ps

-- an integer type, or nothing for void
abbrev pub IsIntegerOrVoid : Option IrType → Type 0
IsIntegerOrVoid None = Unit {0}
IsIntegerOrVoid (Some type) = IsInteger type

-- an instruction on integers
abbrev pub IsOnIntegers : Inst → Type 0
IsOnIntegers (Binary into op width left right) = Unit {0}
IsOnIntegers (Icmp into predicate same_sign width left right) = Unit {0}
IsOnIntegers (Cast into cast from operand to) = Unit {0}
IsOnIntegers (Select into condition if_true if_false) = IsInteger if_true.of_type × IsInteger if_false.of_type
IsOnIntegers (Freeze into type operand) = IsInteger type
IsOnIntegers (Alloca into number type align) = ⊥
IsOnIntegers (Load into type pointer align) = ⊥
IsOnIntegers (Store value pointer align) = ⊥
IsOnIntegers (GetElementPtr into inbounds nuw type base indices) = ⊥

abbrev pub IsPhiOfIntegers : Phi → Type 0
IsPhiOfIntegers phi = IsInteger phi.of_type

abbrev pub ReturnsInteger : Option TypedOperand → Type 0
ReturnsInteger None = Unit {0}
ReturnsInteger (Some returned) = IsInteger returned.of_type

abbrev pub EndsOnIntegers : Terminator → Type 0
EndsOnIntegers (Return returned) = ReturnsInteger returned
EndsOnIntegers (Branch to) = Unit {0}
EndsOnIntegers (CondBranch condition if_true if_false) = Unit {0}
EndsOnIntegers (Switch width operand default cases) = Unit {0}
EndsOnIntegers Unreachable = Unit {0}

pub record IsBlockOnIntegers (b : Block) : Type 0 where
  pub phis : All IsPhiOfIntegers b.phis
  pub insts : All IsOnIntegers b.insts
  pub end : EndsOnIntegers b.terminator

-- no parameter, result, operand or return is a pointer, and no instruction uses memory
pub record HasNoPointers (f : Function) : Type 0 where
  pub parameters : AreIntegers f.parameters
  pub returns : IsIntegerOrVoid f.returns
  pub blocks : All IsBlockOnIntegers f.blocks
