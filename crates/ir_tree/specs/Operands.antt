-- What an instruction and the end of a block read, in text order.
use Rattle.std.specs.Prelude.{List, [], ◌∷◌, map, Option, Some, None}
use Rattle.ir_tree.specs.declared.tree.Operand.{Operand}
use Rattle.ir_tree.specs.declared.tree.GepIndex.{GepIndex}
use Rattle.ir_tree.specs.declared.tree.TypedOperand.{TypedOperand}
use Rattle.ir_tree.specs.declared.tree.Inst.{Inst}
use Rattle.ir_tree.specs.declared.tree.Inst.TheVariants.{Binary, Icmp, Cast, Select, Freeze, Alloca, Load, Store, GetElementPtr}
use Rattle.ir_tree.specs.declared.tree.Terminator.{Terminator}
use Rattle.ir_tree.specs.declared.tree.Terminator.TheVariants as terminator

-- the operands of an instruction
abbrev pub operands_of : Inst → List Operand
operands_of (Binary into op width left right) = left ∷ right ∷ []
operands_of (Icmp into predicate same_sign width left right) = left ∷ right ∷ []
operands_of (Cast into cast from operand to) = operand ∷ []
operands_of (Select into condition if_true if_false) = condition ∷ if_true.operand ∷ if_false.operand ∷ []
operands_of (Freeze into type operand) = operand ∷ []
operands_of (Alloca into number type align) = []
operands_of (Load into type pointer align) = pointer ∷ []
operands_of (Store value pointer align) = value.operand ∷ pointer ∷ []
operands_of (GetElementPtr into inbounds nuw type base indices) = base ∷ map (λ (i : GepIndex). i.operand) indices

abbrev pub returned_operands : Option TypedOperand → List Operand
returned_operands None = []
returned_operands (Some returned) = returned.operand ∷ []

-- the operands of a terminator
abbrev pub operands_at_end : Terminator → List Operand
operands_at_end (terminator.Return returned) = returned_operands returned
operands_at_end (terminator.Branch to) = []
operands_at_end (terminator.CondBranch condition if_true if_false) = condition ∷ []
operands_at_end (terminator.Switch width operand default cases) = operand ∷ []
operands_at_end terminator.Unreachable = []
