-- For each name of a function the operation that makes it.
use Rattle.std.specs.Prelude.{◌≡◌, ℕ, List, slice_index_or, Option, Some, None}
use Rattle.std.specs.List.{find}
use Rattle.ir_tree.specs.declared.tree.Inst.{Inst}
use Rattle.ir_tree.specs.declared.tree.Inst.TheVariants as inst
use Rattle.ir_tree.specs.Carrying.{makes}
use Rattle.lowering.specs.declared.operations.Operation.{Operation}
use Rattle.lowering.specs.declared.operations.Operation.TheVariants.{Binary, Icmp, Cast, Select, Other}

abbrev pub operation_in : Inst → Operation
operation_in (inst.Binary into op width left right) = Binary op width left right
operation_in (inst.Icmp into predicate same_sign width left right) = Icmp predicate same_sign width left right
operation_in (inst.Cast into cast from operand to) = Cast cast from operand to
operation_in (inst.Select into condition if_true if_false) = Select condition if_true if_false
operation_in (inst.Freeze into type operand) = Other
operation_in (inst.Alloca into number type align) = Other
operation_in (inst.Load into type pointer align) = Other
operation_in (inst.Store value pointer align) = Other
operation_in (inst.GetElementPtr into inbounds nuw type base indices) = Other

abbrev pub operation_of : Option Inst → Operation
operation_of None = Other
operation_of (Some i) = operation_in i

abbrev pub operation_at : List Operation → ℕ → Operation
operation_at table name = slice_index_or table name Other

-- the table has the operation of each name, that of the first of the instructions that makes it
abbrev pub AreOperations : List Inst → List Operation → Type 0
AreOperations insts table = (name : ℕ) → operation_at table name ≡ operation_of (find (makes name) insts)
