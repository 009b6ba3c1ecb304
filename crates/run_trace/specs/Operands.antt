-- What phis, instructions and terminators read, and what they give.
use Rattle.std.specs.Prelude.{ℕ, ◌%◌, List, [], ◌∷◌, map, drop, length, nat_eq, if◌then◌else◌, Bool, true, false, ◌&&◌, not, Option, Some, None, option_to_list, slice_get}
use Rattle.std.specs.List.{find}
use Rattle.ir_tree.specs.declared.tree.IrType.{IrType}
use Rattle.ir_tree.specs.declared.tree.IrType.TheVariants as type
use Rattle.ir_tree.specs.declared.tree.Operand.{Operand}
use Rattle.ir_tree.specs.declared.tree.Operand.TheVariants as operand
use Rattle.ir_tree.specs.declared.tree.TypedOperand.{TypedOperand}
use Rattle.ir_tree.specs.declared.tree.GepIndex.{GepIndex}
use Rattle.ir_tree.specs.declared.tree.Inst.{Inst}
use Rattle.ir_tree.specs.declared.tree.Inst.TheVariants.{Binary, Icmp, Cast, Select, Freeze, Alloca, Load, Store, GetElementPtr}
use Rattle.ir_tree.specs.declared.tree.PhiEntry.{PhiEntry}
use Rattle.ir_tree.specs.declared.tree.Phi.{Phi}
use Rattle.ir_tree.specs.declared.tree.Terminator.{Terminator}
use Rattle.ir_tree.specs.declared.tree.Terminator.TheVariants as terminator
use Rattle.ir_tree.specs.Types.{one_bit}
use Rattle.byte_block.specs.declared.value.Value.{Value}
use Rattle.byte_block.specs.declared.value.Value.TheVariants as value
use Rattle.byte_block.specs.declared.value.Value.TheVariants.{Num}
use Rattle.memory_access.specs.Bytes.{access_size}
use Rattle.points.specs.declared.machine.Machine.{Machine}
use Rattle.points.specs.Run.{operand_value, typed_operand_value, access_of, is_poison}
use Rattle.run_trace.specs.declared.steps.Location.{Location}

-- ---- operands in text order, each with the type at which it is used

abbrev pub used_as : IrType → Operand → TypedOperand
used_as type operand = record { of_type = type; operand = operand }

abbrev pub index_operand : GepIndex → TypedOperand
index_operand index = used_as (type.Int index.width) index.operand

abbrev pub operands_of : Inst → List TypedOperand
operands_of (Binary into op width left right) = used_as (type.Int width) left ∷ used_as (type.Int width) right ∷ []
operands_of (Icmp into predicate same_sign width left right) = used_as (type.Int width) left ∷ used_as (type.Int width) right ∷ []
operands_of (Cast into cast from operand to) = used_as (type.Int from) operand ∷ []
operands_of (Select into condition if_true if_false) = used_as (type.Int one_bit) condition ∷ if_true ∷ if_false ∷ []
operands_of (Freeze into of_type operand) = used_as of_type operand ∷ []
operands_of (Alloca into number of_type align) = []
operands_of (Load into of_type pointer align) = used_as type.Ptr pointer ∷ []
operands_of (Store v pointer align) = v ∷ used_as type.Ptr pointer ∷ []
operands_of (GetElementPtr into inbounds nuw of_type base indices) = used_as type.Ptr base ∷ map index_operand indices

-- of a phi the operand of the entry for the block that was left
abbrev pub entry_operand : IrType → Option PhiEntry → List TypedOperand
entry_operand type None = []
entry_operand type (Some e) = used_as type e.operand ∷ []

abbrev pub phi_operand : Machine → Phi → List TypedOperand
phi_operand m phi = entry_operand phi.of_type (find (λ (e : PhiEntry). nat_eq e.from m.block) phi.entries)

abbrev pub end_operands : Terminator → List TypedOperand
end_operands (terminator.Return returned) = option_to_list returned
end_operands (terminator.Branch to) = []
end_operands (terminator.CondBranch condition if_true if_false) = used_as (type.Int one_bit) condition ∷ []
end_operands (terminator.Switch width operand default cases) = used_as (type.Int width) operand ∷ []
end_operands terminator.Unreachable = []

-- the arm that a select takes; on poison it takes none
abbrev pub taken_arm : Value → TypedOperand → TypedOperand → List TypedOperand
taken_arm (Num c) if_true if_false = (if nat_eq (c % 2) 1 then if_true else if_false) ∷ []
taken_arm _ if_true if_false = []

-- those that have an effect: the arm that a select does not take has none
abbrev pub effective_operands : Inst → List Value → List TypedOperand
effective_operands (Select into condition if_true if_false) registers =
    used_as (type.Int one_bit) condition ∷ taken_arm (operand_value registers condition) if_true if_false
effective_operands inst registers = operands_of inst

-- ---- what they read

abbrev pub values_of : List Value → List TypedOperand → List Value
values_of registers operands = map (typed_operand_value registers) operands

abbrev pub is_name : Operand → Bool
is_name (operand.Local name) = true
is_name (operand.Number n) = false
is_name operand.Null = false
is_name operand.Poison = false
is_name operand.Undef = false

-- a name that is poison: the poison was there before
abbrev pub is_poison_name : List Value → TypedOperand → Bool
is_poison_name registers t = is_name t.operand && is_poison (typed_operand_value registers t)

-- poison or undef in the text
abbrev pub is_poison_literal : List Value → TypedOperand → Bool
is_poison_literal registers t = not (is_name t.operand) && is_poison (typed_operand_value registers t)

-- ---- what an instruction gives

-- the name of its result; a store has none
abbrev pub name_of : Inst → Option ℕ
name_of (Binary into op width left right) = Some into
name_of (Icmp into predicate same_sign width left right) = Some into
name_of (Cast into cast from operand to) = Some into
name_of (Select into condition if_true if_false) = Some into
name_of (Freeze into type operand) = Some into
name_of (Alloca into number type align) = Some into
name_of (Load into type pointer align) = Some into
name_of (Store v pointer align) = None
name_of (GetElementPtr into inbounds nuw type base indices) = Some into

abbrev pub read_after : List Value → Option ℕ → Option Value
read_after registers None = None
read_after registers (Some name) = slice_get registers name

-- what the name reads afterwards; undefined behaviour gives nothing
abbrev pub value_after : Option Machine → Option ℕ → Option Value
value_after None name = None
value_after (Some m) name = read_after m.registers name

-- the words of the tape that were taken since this machine
abbrev pub words_since : Machine → List ℕ → List ℕ
words_since m taken = drop (length m.taken) taken

abbrev pub words_after : Machine → Option Machine → List ℕ
words_after m None = []
words_after m (Some m') = words_since m m'.taken

-- ---- where a load or a store goes

abbrev pub location_at : Value → ℕ → Option Location
location_at (value.Ptr p) n = Some (record { pointer = p; bytes = n })
location_at _ n = None

abbrev pub location_of : Inst → Machine → Option Location
location_of (Load into type pointer align) m = location_at (operand_value m.registers pointer) (access_size (access_of type))
location_of (Store v pointer align) m = location_at (operand_value m.registers pointer) (access_size (access_of v.of_type))
location_of inst m = None
