-- A function with the names of its values renumbered: each gets the number of a slot, which several names may share.
use Rattle.std.specs.Prelude.{ℕ, List, [], map, slice_index_or}
use Rattle.std.specs.Option.{option_map}
use Rattle.ir_tree.specs.declared.name.Name.{Name}
use Rattle.ir_tree.specs.declared.tree.Operand.{Operand}
use Rattle.ir_tree.specs.declared.tree.Operand.TheVariants as operand
use Rattle.ir_tree.specs.declared.tree.Inst.{Inst}
use Rattle.ir_tree.specs.declared.tree.Inst.TheVariants.{Binary, Icmp, Cast, Select, Freeze, Alloca, Load, Store, GetElementPtr}
use Rattle.ir_tree.specs.declared.tree.GepIndex.{GepIndex}
use Rattle.ir_tree.specs.declared.tree.TypedOperand.{TypedOperand}
use Rattle.ir_tree.specs.declared.tree.PhiEntry.{PhiEntry}
use Rattle.ir_tree.specs.declared.tree.Phi.{Phi}
use Rattle.ir_tree.specs.declared.tree.Terminator.{Terminator}
use Rattle.ir_tree.specs.declared.tree.Terminator.TheVariants as terminator
use Rattle.ir_tree.specs.declared.tree.Block.{Block}
use Rattle.ir_tree.specs.declared.tree.Parameter.{Parameter}
use Rattle.ir_tree.specs.declared.tree.Function.{Function}

-- the slot of a name; a name for which the list has none keeps its number
abbrev pub slot_of : List ℕ → ℕ → ℕ
slot_of slots name = slice_index_or slots name name

abbrev pub operand_in : List ℕ → Operand → Operand
operand_in slots (operand.Local name) = operand.Local (slot_of slots name)
operand_in slots (operand.Number n) = operand.Number n
operand_in slots operand.Null = operand.Null
operand_in slots operand.Poison = operand.Poison
operand_in slots operand.Undef = operand.Undef

abbrev pub typed_in : List ℕ → TypedOperand → TypedOperand
typed_in slots t = record { of_type = t.of_type; operand = operand_in slots t.operand }

abbrev pub index_in : List ℕ → GepIndex → GepIndex
index_in slots index = record { width = index.width; operand = operand_in slots index.operand }

abbrev pub inst_in : List ℕ → Inst → Inst
inst_in slots (Binary into op width left right) = Binary (slot_of slots into) op width (operand_in slots left) (operand_in slots right)
inst_in slots (Icmp into predicate same_sign width left right) = Icmp (slot_of slots into) predicate same_sign width (operand_in slots left) (operand_in slots right)
inst_in slots (Cast into cast from operand to) = Cast (slot_of slots into) cast from (operand_in slots operand) to
inst_in slots (Select into condition if_true if_false) = Select (slot_of slots into) (operand_in slots condition) (typed_in slots if_true) (typed_in slots if_false)
inst_in slots (Freeze into type operand) = Freeze (slot_of slots into) type (operand_in slots operand)
inst_in slots (Alloca into number type align) = Alloca (slot_of slots into) number type align
inst_in slots (Load into type pointer align) = Load (slot_of slots into) type (operand_in slots pointer) align
inst_in slots (Store value pointer align) = Store (typed_in slots value) (operand_in slots pointer) align
inst_in slots (GetElementPtr into inbounds nuw type base indices) = GetElementPtr (slot_of slots into) inbounds nuw type (operand_in slots base) (map (index_in slots) indices)

abbrev pub entry_in : List ℕ → PhiEntry → PhiEntry
entry_in slots entry = record { operand = operand_in slots entry.operand; from = entry.from }

abbrev pub phi_in : List ℕ → Phi → Phi
phi_in slots phi = record { into = slot_of slots phi.into; of_type = phi.of_type; entries = map (entry_in slots) phi.entries }

abbrev pub terminator_in : List ℕ → Terminator → Terminator
terminator_in slots (terminator.Return returned) = terminator.Return (option_map (typed_in slots) returned)
terminator_in slots (terminator.Branch to) = terminator.Branch to
terminator_in slots (terminator.CondBranch condition if_true if_false) = terminator.CondBranch (operand_in slots condition) if_true if_false
terminator_in slots (terminator.Switch width operand default cases) = terminator.Switch width (operand_in slots operand) default cases
terminator_in slots terminator.Unreachable = terminator.Unreachable

abbrev pub block_in : List ℕ → Block → Block
block_in slots b = record { label = b.label; phis = map (phi_in slots) b.phis; insts = map (inst_in slots) b.insts; terminator = terminator_in slots b.terminator }

abbrev pub parameter_in : List ℕ → Parameter → Parameter
parameter_in slots p = record { of_type = p.of_type; no_undef = p.no_undef; non_null = p.non_null; name = slot_of slots p.name }

-- labels keep their numbers; the table is this list of names, and no lines and columns are kept
abbrev pub function_in : List ℕ → List Name → Function → Function
function_in slots names f = record {
  name = f.name;
  returns = f.returns;
  returns_no_undef = f.returns_no_undef;
  parameters = map (parameter_in slots) f.parameters;
  blocks = map (block_in slots) f.blocks;
  names = names;
  places = [];
}
