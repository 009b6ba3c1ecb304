-- What a function does on an input and a tape of choices (LLVM Language Reference, "Functions", "Instruction
-- Reference", "Poison Values", "Undefined Values", "Freeze Instruction").
--
-- It is defined for every function, also for those that the reader rejects: a name that was never assigned is poison,
-- undef is poison where it is neither frozen nor returned, a number is read modulo the width at which it is used, a
-- pointer where a number is used is poison, and so is a number where a pointer is used, a phi without an entry for the
-- block that was left is poison, and a jump to a label that no block has ends in undefined behaviour. None of these
-- happens in a function that the reader accepts.
use Rattle.std.specs.Prelude.{◌≡◌, ℕ, zero, suc, ◌+◌, ◌%◌, ◌^◌, List, [], ◌∷◌, ◌++◌, length, replicate, nat_eq, nat_lt, if◌then◌else◌, Bool, true, false, ◌&&◌, ◌||◌, Option, Some, None, slice_get, slice_index, slice_index_or, slice_set}
use Rattle.std.specs.List.{find, filter, list_any}
use Rattle.std.specs.Option.{option_map, option_map_or}
use Rattle.ir_tree.specs.declared.tree.IrType.{IrType}
use Rattle.ir_tree.specs.declared.tree.IrType.TheVariants as type
use Rattle.ir_tree.specs.declared.tree.Operand.{Operand}
use Rattle.ir_tree.specs.declared.tree.Operand.TheVariants as operand
use Rattle.ir_tree.specs.declared.tree.Inst.{Inst}
use Rattle.ir_tree.specs.declared.tree.Inst.TheVariants.{Binary, Icmp, Cast, Select, Freeze, Alloca, Load, Store, GetElementPtr}
use Rattle.ir_tree.specs.declared.tree.MemoryType.{MemoryType}
use Rattle.ir_tree.specs.declared.tree.GepIndex.{GepIndex}
use Rattle.ir_tree.specs.declared.tree.TypedOperand.{TypedOperand}
use Rattle.ir_tree.specs.declared.tree.PhiEntry.{PhiEntry}
use Rattle.ir_tree.specs.declared.tree.Phi.{Phi}
use Rattle.ir_tree.specs.declared.tree.Case.{Case}
use Rattle.ir_tree.specs.declared.tree.Terminator.{Terminator}
use Rattle.ir_tree.specs.declared.tree.Terminator.TheVariants as terminator
use Rattle.ir_tree.specs.declared.tree.Block.{Block}
use Rattle.ir_tree.specs.declared.tree.Parameter.{Parameter}
use Rattle.ir_tree.specs.declared.tree.Function.{Function}
use Rattle.ir_tree.specs.Sites.{same_number}
use Rattle.ir_tree.specs.Flow.{block_of}
use Rattle.ir_tree.specs.Types.{object_size, indexed_size}
use Rattle.byte_block.specs.declared.value.BlockName.{BlockName}
use Rattle.byte_block.specs.declared.value.BlockName.TheVariants.{Null, Given, Local}
use Rattle.byte_block.specs.declared.value.Ptr.{Ptr}
use Rattle.byte_block.specs.declared.value.Value.{Value}
use Rattle.byte_block.specs.declared.value.Value.TheVariants as value
use Rattle.byte_block.specs.declared.value.Value.TheVariants.{Num, Poison}
use Rattle.byte_block.specs.declared.block.MemoryBlock.{MemoryBlock}
use Rattle.memory_access.specs.declared.access_types.Access.{Access}
use Rattle.memory_access.specs.declared.access_types.Access.TheVariants as access
use Rattle.memory_access.specs.declared.access_types.Loaded.{Loaded}
use Rattle.memory_access.specs.declared.access_types.Loaded.TheVariants as load
use Rattle.memory_access.specs.declared.access_types.Stored.{Stored}
use Rattle.memory_access.specs.declared.access_types.Stored.TheVariants as store
use Rattle.memory_access.specs.declared.offsets.Index.{Index}
use Rattle.memory_access.specs.Blocks.{equal_pointers, names}
use Rattle.memory_access.specs.Accesses.{load_result, store_result, after_store, after_alloca}
use Rattle.memory_access.specs.Offsets.{gep_result}
use Rattle.points.specs.declared.machine.Machine.{Machine}
use Rattle.points.specs.declared.outcome.Outcome.{Outcome}
use Rattle.points.specs.declared.outcome.Outcome.TheVariants.{Return, Ub, Beyond}
use Rattle.points.specs.declared.point.Bounds.{Bounds}
use Rattle.points.specs.declared.point.Input.{Input}
use Rattle.points.specs.Table.{value_result, compared, cast_value, selected}

-- ---- operands

abbrev pub null_pointer : Ptr
null_pointer = record { block = Null; offset = 0 }

abbrev pub operand_value : List Value → Operand → Value
operand_value registers (operand.Local name) = slice_index_or registers name Poison
operand_value registers (operand.Number n) = Num n
operand_value registers operand.Null = value.Ptr null_pointer
operand_value registers operand.Poison = Poison
operand_value registers operand.Undef = Poison

-- a number is cut to the width; a pointer gives poison
abbrev pub cut_value : ℕ → Value → Value
cut_value width (Num n) = Num (n % 2 ^ width)
cut_value width Poison = Poison
cut_value width (value.Ptr p) = Poison

-- a pointer; a number gives poison
abbrev pub address_value : Value → Value
address_value (Num n) = Poison
address_value Poison = Poison
address_value (value.Ptr p) = value.Ptr p

-- a value where one of a type is used
abbrev pub typed_value : IrType → Value → Value
typed_value (type.Int width) v = cut_value width.bits v
typed_value type.Ptr v = address_value v

abbrev pub typed_operand_value : List Value → TypedOperand → Value
typed_operand_value registers t = typed_value t.of_type (operand_value registers t.operand)

abbrev pub assigned : Machine → ℕ → Value → Machine
assigned m name v = record m { registers = slice_set m.registers name v }

-- ---- choices

-- a value that a run chose, and the words of a tape that encode it
pub record Choice : Type 0 where
  pub value : Value
  pub words : List ℕ

-- the tape's word k, counted from 0 after those that were read; 0 past the tape's end
abbrev pub next_word : List ℕ → Machine → ℕ → ℕ
next_word tape m k = slice_index tape (length m.taken + k)

-- a given block by its number, null by 0
abbrev pub block_number : BlockName → ℕ
block_number Null = 0
block_number (Given n) = n
block_number (Local turn number) = 0

-- the given block with this number from 1 on; null where the memory has none
abbrev pub given_or_null : List MemoryBlock → ℕ → BlockName
given_or_null memory n = if nat_lt 0 n && list_any (names (Given n)) memory then Given n else Null

-- an integer is the next word cut to its width
abbrev pub integer_choice : ℕ → Choice
integer_choice n = record { value = Num n; words = n ∷ [] }

-- a pointer is two words: the low 16 bits of the first name a given block, and the second is the offset
abbrev pub pointer_choice : BlockName → ℕ → Choice
pointer_choice block offset = record { value = value.Ptr (record { block = block; offset = offset }); words = block_number block ∷ offset ∷ [] }

abbrev pub choice_of : IrType → List ℕ → Machine → Choice
choice_of (type.Int width) tape m = integer_choice (next_word tape m 0 % 2 ^ width.bits)
choice_of type.Ptr tape m = pointer_choice (given_or_null m.memory (next_word tape m 0 % 65536)) (next_word tape m 1 % 2 ^ 64)

abbrev pub with_taken : Machine → Choice → Machine
with_taken m choice = record m { taken = m.taken ++ choice.words }

-- freeze: poison and undef become a choice, and any other value stays as it is ("freeze Instruction")
abbrev pub frozen : List ℕ → Machine → ℕ → IrType → Value → Machine
frozen tape m name type Poison = assigned (with_taken m (choice_of type tape m)) name (choice_of type tape m).value
frozen tape m name type v = assigned m name v

-- ---- memory ("Memory Access and Addressing Operations")

abbrev pub access_of : IrType → Access
access_of (type.Int width) = access.Int width
access_of type.Ptr = access.Pointer

-- the block of an alloca is named by the count of backward jumps so far and the alloca's number
abbrev pub allocated : Machine → ℕ → ℕ → MemoryType → ℕ → Machine
allocated m into number type align =
    assigned (record m { memory = after_alloca m.memory (Local m.turn number) (object_size type) align }) into (value.Ptr (record { block = Local m.turn number; offset = 0 }))

abbrev pub loaded : Machine → ℕ → Loaded → Option Machine
loaded m into (load.Done v) = Some (assigned m into v)
loaded m into load.Ub = None

abbrev pub stored : Machine → List MemoryBlock → Stored → Option Machine
stored m memory store.Done = Some (record m { memory = memory })
stored m memory store.Ub = None

abbrev pub index_value : List Value → MemoryType → ℕ → GepIndex → Index
index_value registers type n index = record { value = cut_value index.width.bits (operand_value registers index.operand); width = index.width; scale = indexed_size type n }

-- indices, the first of them with this number
abbrev pub index_values : List Value → MemoryType → ℕ → List GepIndex → List Index
index_values registers type n [] = []
index_values registers type n (index ∷ indices) = index_value registers type n index ∷ index_values registers type (n + 1) indices

-- ---- one instruction

-- None is undefined behaviour
abbrev pub act : Inst → List ℕ → Machine → Option Machine
act (Binary into op width left right) tape m =
    option_map (assigned m into) (value_result op width.bits (operand_value m.registers left) (operand_value m.registers right))
act (Icmp into predicate same_sign width left right) tape m =
    Some (assigned m into (compared predicate same_sign width.bits (operand_value m.registers left) (operand_value m.registers right)))
act (Cast into cast from operand to) tape m = Some (assigned m into (cast_value cast from.bits to.bits (operand_value m.registers operand)))
act (Select into condition if_true if_false) tape m =
    Some (assigned m into (selected (operand_value m.registers condition) (typed_operand_value m.registers if_true) (typed_operand_value m.registers if_false)))
act (Freeze into type operand) tape m = Some (frozen tape m into type (typed_value type (operand_value m.registers operand)))
act (Alloca into number type align) tape m = Some (allocated m into number type align)
act (Load into type pointer align) tape m = loaded m into (load_result m.memory (operand_value m.registers pointer) (access_of type) align)
act (Store v pointer align) tape m =
    stored m (after_store m.memory (typed_operand_value m.registers v) (access_of v.of_type) (operand_value m.registers pointer) align)
    (store_result m.memory (access_of v.of_type) (operand_value m.registers pointer) align)
act (GetElementPtr into inbounds nuw type base indices) tape m =
    Some (assigned m into (gep_result m.memory (operand_value m.registers base) (index_values m.registers type 0 indices) inbounds nuw))

-- ---- the phis of a block ("phi Instruction")

-- the value of the entry for the block that was left
abbrev pub entry_value : Machine → List PhiEntry → Value
entry_value m entries = option_map_or (λ (e : PhiEntry). operand_value m.registers e.operand) (find (λ (e : PhiEntry). nat_eq e.from m.block) entries) Poison

abbrev pub phi_value : Machine → Phi → Value
phi_value m phi = typed_value phi.of_type (entry_value m phi.entries)

-- each phi gets its value of the machine before them, so that none sees the result of another
abbrev pub with_phis : Machine → List Phi → Machine → Machine
with_phis before [] m = m
with_phis before (phi ∷ phis) m = with_phis before phis (assigned m phi.into (phi_value before phi))

-- a block is entered: all its phis at once
abbrev pub entered : Block → Machine → Machine
entered b m = record (with_phis m b.phis m) { block = b.label }

-- ---- one block

-- how a run ended, and the choices that it took, in order
pub record Run : Type 0 where
  pub outcome : Outcome
  pub taken : List ℕ

-- how a block is left: to the block of a label, or with the end of the run
pub data Exit : Type 0 where
  To : ℕ → Machine → Exit
  Over : Run → Exit

abbrev pub ended : Outcome → Machine → Run
ended outcome m = record { outcome = outcome; taken = m.taken }

abbrev pub is_given_name : BlockName → Bool
is_given_name Null = false
is_given_name (Given n) = true
is_given_name (Local turn number) = false

abbrev pub is_given : MemoryBlock → Bool
is_given b = is_given_name b.name

-- a return frees the blocks of allocas and leaves the given ones
abbrev pub returns : Option Value → Machine → Run
returns v m = ended (Return v (filter is_given m.memory)) m

-- the type of the choice that an operand makes: only undef makes one ("Undefined Values")
abbrev pub undef_type : IrType → Operand → Option IrType
undef_type type operand.Undef = Some type
undef_type type _ = None

abbrev pub returned_with : Option IrType → TypedOperand → List ℕ → Machine → Run
returned_with (Some type) returned tape m = returns (Some (choice_of type tape m).value) (with_taken m (choice_of type tape m))
returned_with None returned tape m = returns (Some (typed_operand_value m.registers returned)) m

abbrev pub is_poison : Value → Bool
is_poison (Num n) = false
is_poison Poison = true
is_poison (value.Ptr p) = false

-- undef is returned as a choice; where the return is noundef, undef and poison are undefined behaviour ("ret
-- Instruction"; "Parameter Attributes", noundef)
abbrev pub returned_run : Bool → Option TypedOperand → List ℕ → Machine → Run
returned_run no_undef None tape m = returns None m
returned_run no_undef (Some returned) tape m =
    if no_undef && is_poison (typed_operand_value m.registers returned) then ended Ub m
    else returned_with (undef_type returned.of_type returned.operand) returned tape m

-- a condition of one bit; poison is undefined behaviour ("br Instruction")
abbrev pub branch_on : Value → ℕ → ℕ → Machine → Exit
branch_on (Num n) if_true if_false m = To (if nat_eq (n % 2) 1 then if_true else if_false) m
branch_on _ if_true if_false m = Over (ended Ub m)

-- the first case with this number of `width` bits, or the default
abbrev pub case_for : ℕ → ℕ → ℕ → List Case → ℕ
case_for width n default cases = option_map_or (λ (c : Case). c.to) (find (λ (c : Case). same_number width c.value n) cases) default

-- poison is undefined behaviour ("switch Instruction")
abbrev pub switch_on : ℕ → Value → ℕ → List Case → Machine → Exit
switch_on width (Num n) default cases m = To (case_for width n default cases) m
switch_on width _ default cases m = Over (ended Ub m)

abbrev pub exit_by : Bool → Terminator → List ℕ → Machine → Exit
exit_by no_undef (terminator.Return returned) tape m = Over (returned_run no_undef returned tape m)
exit_by no_undef (terminator.Branch to) tape m = To to m
exit_by no_undef (terminator.CondBranch condition if_true if_false) tape m = branch_on (operand_value m.registers condition) if_true if_false m
exit_by no_undef (terminator.Switch width operand default cases) tape m = switch_on width.bits (operand_value m.registers operand) default cases m
exit_by no_undef terminator.Unreachable tape m = Over (ended Ub m)

abbrev pub exit_after : Option Machine → Machine → (Machine → Exit) → Exit
exit_after None m go = Over (ended Ub m)
exit_after (Some m') m go = go m'

-- the first argument says whether the function's return is noundef
unfoldable pub exit_insts : Bool → List Inst → Terminator → List ℕ → Machine → Exit
exit_insts no_undef [] end tape m = exit_by no_undef end tape m
exit_insts no_undef (inst ∷ insts) end tape m = exit_after (act inst tape m) m (exit_insts no_undef insts end tape)

abbrev pub exit_of : Bool → Option Block → List ℕ → Machine → Exit
exit_of no_undef None tape m = Over (ended Ub m)
exit_of no_undef (Some block) tape m = exit_insts no_undef block.insts block.terminator tape (entered block m)

-- ---- the run

-- the run from the entry of the block at an index
abbrev pub Go : Type 0
Go = ℕ → Machine → Run

-- to the block at an index: a jump to the same or an earlier one is backward, and is counted
abbrev pub jump : ℕ → ℕ → Machine → Go → Go → Run
jump at to m onward again = if nat_lt at to then onward to m else again to (record m { turn = m.turn + 1 })

-- the first number is the index of the block that is left; a label that no block has gives an index past the last block
abbrev pub go_on : Function → Exit → ℕ → Go → Go → Run
go_on f (Over run) at onward again = run
go_on f (To label m) at onward again = jump at (block_of f label) m onward again

-- up to the next backward jump, which goes on by `again`; `left` bounds the forward jumps, and the number of blocks suffices
unfoldable pub forward : Function → List ℕ → Go → ℕ → Go
forward f tape again zero at m = ended Ub m
forward f tape again (suc left) at m = go_on f (exit_of f.returns_no_undef (slice_get f.blocks at) tape m) at (forward f tape again left) again

-- with this number of backward jumps left; one more ends the run
unfoldable pub run_turns : Function → List ℕ → ℕ → Go
run_turns f tape zero = forward f tape (λ at m. ended Beyond m) (length f.blocks)
run_turns f tape (suc turns) = forward f tape (run_turns f tape turns) (length f.blocks)

abbrev pub is_null : Value → Bool
is_null (Num n) = false
is_null Poison = false
is_null (value.Ptr p) = equal_pointers p null_pointer

-- null is poison where the parameter is nonnull ("Parameter Attributes", nonnull)
abbrev pub argument_value : Parameter → Value → Value
argument_value p v = if p.non_null && is_null v then Poison else v

-- the parameters' names get the arguments
abbrev pub with_args : List Parameter → List Value → List Value → List Value
with_args (p ∷ ps) (v ∷ vs) registers = with_args ps vs (slice_set registers p.name (argument_value p v))
with_args _ _ registers = registers

abbrev pub first_machine : Function → Input → Machine
first_machine f input = record {
  registers = with_args f.parameters input.args (replicate (length f.names) Poison);
  memory = input.blocks;
  turn = 0;
  block = 0;
  taken = [];
}

-- an argument is poison whose parameter is noundef
abbrev pub breaks_noundef : List Parameter → List Value → Bool
breaks_noundef (p ∷ ps) (v ∷ vs) = (p.no_undef && is_poison (argument_value p v)) || breaks_noundef ps vs
breaks_noundef _ _ = false

-- the first block is the entry; a poison argument of a noundef parameter is undefined behaviour before it ("Parameter
-- Attributes", noundef)
abbrev pub run_of : Function → Bounds → Input → List ℕ → Run
run_of f bounds input tape =
    if breaks_noundef f.parameters input.args then ended Ub (first_machine f input)
    else run_turns f tape bounds.turns 0 (first_machine f input)

-- the tape is the choices that the run took, and zeros
abbrev pub IsPlain : List ℕ → Run → Type 0
IsPlain tape run = (k : ℕ) → slice_index tape k ≡ slice_index run.taken k
