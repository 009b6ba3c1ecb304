-- The tasks in which an operand is computed.
use Rattle.std.specs.Prelude.{ℕ, if◌then◌else◌, List, [], ◌∷◌}
use Rattle.ir_tree.specs.declared.tree.IrType.{IrType}
use Rattle.ir_tree.specs.declared.tree.IrType.TheVariants as type
use Rattle.ir_tree.specs.declared.tree.Operand.{Operand}
use Rattle.ir_tree.specs.declared.tree.Operand.TheVariants.{Local, Number, Null, Poison, Undef}
use Rattle.ir_tree.specs.declared.tree.Inst.{Inst}
use Rattle.ir_tree.specs.declared.tree.Inst.TheVariants as inst
use Rattle.ir_tree.specs.declared.tree.Function.{Function}
use Rattle.ir_tree.specs.Types.{one_bit}
use Rattle.ir_tree.specs.Carrying.{carries}
use Rattle.lowering.specs.declared.operations.Operation.{Operation}
use Rattle.lowering.specs.declared.operations.Operation.TheVariants.{Binary, Icmp, Cast, Select, Other}
use Rattle.lowering.specs.declared.computing.Task.{Task}
use Rattle.lowering.specs.declared.computing.Task.TheVariants.{Compute, Emit}
use Rattle.lowering.specs.Lowered.{above, maker_of, placed, scratch}
use Rattle.lowering.specs.Operations.{operation_of}
use Rattle.lowering.specs.Plan.{typed_placed}

-- an instruction after its two operands of a type, the last task first
abbrev pub pair_tasks : Function → ℕ → Inst → IrType → Operand → Operand → List Task
pair_tasks f height i type left right = Emit i ∷ Compute (above f height left) type right ∷ Compute height type left ∷ []

-- an operation at a height after its operands, the last task first
abbrev pub operation_tasks : Function → ℕ → Operation → List Task
operation_tasks f height (Binary op width left right) =
    pair_tasks f height (inst.Binary (scratch f height) op width (placed f height left) (placed f (above f height left) right)) (type.Int width) left right
operation_tasks f height (Icmp predicate same_sign width left right) =
    pair_tasks f height (inst.Icmp (scratch f height) predicate same_sign width (placed f height left) (placed f (above f height left) right)) (type.Int width) left right
operation_tasks f height (Cast cast from operand to) =
    Emit (inst.Cast (scratch f height) cast from (placed f height operand) to) ∷ Compute height (type.Int from) operand ∷ []
operation_tasks f height (Select condition if_true if_false) =
    Emit (inst.Select (scratch f height) (placed f height condition)
    (typed_placed f (above f height condition) if_true)
    (typed_placed f (above f (above f height condition) if_true.operand) if_false))
    ∷ Compute (above f (above f height condition) if_true.operand) if_false.of_type if_false.operand
    ∷ Compute (above f height condition) if_true.of_type if_true.operand
    ∷ Compute height (type.Int one_bit) condition ∷ []
operation_tasks f height Other = []

-- what an operand of a type is computed by at a height, the last task first
abbrev pub operand_tasks : Function → ℕ → IrType → Operand → List Task
operand_tasks f height type (Local name) = if carries f (Local name) then operation_tasks f height (operation_of (maker_of f name)) else []
operand_tasks f height type Undef = Emit (inst.Freeze (scratch f height) type Undef) ∷ []
operand_tasks f height type (Number n) = []
operand_tasks f height type Null = []
operand_tasks f height type Poison = []
