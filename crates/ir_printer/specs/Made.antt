-- The pair of modules of a seed: straight-line functions on two bytes, and the same with the operands of some instructions exchanged.
use Rattle.std.proofs.Common.{lit≤}
use Rattle.std.specs.Prelude.{ℕ, zero, suc, ◌+◌, ◌*◌, ◌-◌, ◌/◌, ◌%◌, ◌^◌, List, [], ◌∷◌, ◌++◌, codes, Bool, true, false, ◌&&◌, ◌==◌, nat_lt, if◌then◌else◌, Some, Ok, fold}
use Rattle.std.specs.Fmt.{decimal}
use Rattle.tv_num.specs.declared.Width.{Width}
use Rattle.ir_tree.specs.Names.{with_name}
use Rattle.ir_tree.specs.declared.name.Name.{Name}
use Rattle.ir_tree.specs.declared.name.Name.TheVariants as name
use Rattle.ir_tree.specs.declared.tree.IrType.TheVariants.{Int}
use Rattle.ir_tree.specs.declared.tree.Flags.{Flags}
use Rattle.ir_tree.specs.declared.tree.Op.{Op}
use Rattle.ir_tree.specs.declared.tree.Op.TheVariants as op
use Rattle.ir_tree.specs.declared.tree.Operand.{Operand}
use Rattle.ir_tree.specs.declared.tree.Operand.TheVariants.{Local}
use Rattle.ir_tree.specs.declared.tree.Inst.{Inst}
use Rattle.ir_tree.specs.declared.tree.Inst.TheVariants.{Binary}
use Rattle.ir_tree.specs.declared.tree.Parameter.{Parameter}
use Rattle.ir_tree.specs.declared.tree.Block.{Block}
use Rattle.ir_tree.specs.declared.tree.Terminator.TheVariants.{Return}
use Rattle.ir_tree.specs.declared.tree.Function.{Function}
use Rattle.ir_tree.specs.declared.module.Entry.{Entry}
use Rattle.ir_tree.specs.declared.module.Module.{Module}

-- ---- numbers drawn from a seed, by a linear congruential generator with the constants of the ISO C standard's `rand`

abbrev pub next_state : ℕ → ℕ
next_state x = (x * 1103515245 + 12345) % 2 ^ 31

-- after this number of draws
abbrev pub state_behind : ℕ → ℕ → ℕ
state_behind zero x = x
state_behind (suc n) x = state_behind n (next_state x)

-- a number below n, of the state after its draw
abbrev pub drawn : ℕ → ℕ → ℕ
drawn n x = x / 65536 % n

-- ---- instructions

abbrev pub no_flags : Flags
no_flags = record { nuw = false; nsw = false }

abbrev pub made_op : ℕ → Op
made_op n =
    (if n == 0 then op.Add no_flags
    else (if n == 1 then op.Sub no_flags
    else (if n == 2 then op.And
    else (if n == 3 then op.Or false else op.Xor))))

abbrev pub eight : Width
eight = record { bits = 8; at_least_1 = lit≤ tt; at_most_64 = lit≤ tt }

-- the number of the name of a value: two parameters, and, after the entry's label, results
abbrev pub value_name : ℕ → ℕ
value_name n = (if nat_lt n 2 then n else n + 1)

abbrev pub value : ℕ → Operand
value n = Local (value_name n)

abbrev pub made_binary : Bool → ℕ → ℕ → ℕ → ℕ → Inst
made_binary true i o left right = Binary (value_name (i + 2)) (made_op o) eight (value right) (value left)
made_binary false i o left right = Binary (value_name (i + 2)) (made_op o) eight (value left) (value right)

-- Instruction i, from a state: an operation, two of the values before it, and whether the target has them exchanged.
abbrev pub made_inst : Bool → ℕ → ℕ → Inst
made_inst in_target i x =
    made_binary (in_target && drawn 4 (state_behind 4 x) == 3) i (drawn 5 (state_behind 1 x)) (drawn (i + 2) (state_behind 2 x)) (drawn (i + 2) (state_behind 3 x))

-- n instructions, the first with number i
abbrev pub made_insts : Bool → ℕ → ℕ → ℕ → List Inst
made_insts in_target zero i x = []
made_insts in_target (suc n) i x = made_inst in_target i x ∷ made_insts in_target n (i + 1) (state_behind 4 x)

-- ---- functions

-- the names of n results, from number i on
abbrev pub result_names : ℕ → ℕ → List Name
result_names zero i = []
result_names (suc n) i = name.Word (codes "r" ++ decimal i) ∷ result_names n (i + 1)

abbrev pub made_names : ℕ → List Name
made_names insts = fold with_name [] (name.Word (codes "a") ∷ name.Word (codes "b") ∷ name.Word (codes "entry") ∷ result_names insts 0)

abbrev pub byte_parameter : ℕ → Parameter
byte_parameter n = record { of_type = Int eight; no_undef = false; non_null = false; name = n }

-- the last value is returned
abbrev pub made_block : Bool → ℕ → ℕ → Block
made_block in_target insts x =
    record { label = 2; phis = []; insts = made_insts in_target insts 0 x; terminator = Return (Some (record { of_type = Int eight; operand = value (insts + 1) })) }

abbrev pub function_name : ℕ → Name
function_name k = name.Word (codes "m" ++ decimal k)

abbrev pub made_function : Bool → ℕ → ℕ → ℕ → Function
made_function in_target insts k x = record {
  name = function_name k;
  returns = Some (Int eight);
  returns_no_undef = false;
  parameters = byte_parameter 0 ∷ byte_parameter 1 ∷ [];
  blocks = made_block in_target insts x ∷ [];
  names = made_names insts;
  places = [];
}

-- ---- modules

abbrev pub made_entry : Bool → ℕ → ℕ → ℕ → Entry
made_entry in_target insts k x = record { name = function_name k; function = Ok (made_function in_target insts k x) }

-- n functions, the first with number k, from a state
abbrev pub made_entries : Bool → ℕ → ℕ → ℕ → ℕ → List Entry
made_entries in_target insts zero k x = []
made_entries in_target insts (suc n) k x = made_entry in_target insts k x ∷ made_entries in_target insts n (k + 1) (state_behind (4 * insts) x)

-- the source of a seed, or its target
abbrev pub made_module : (in_target : Bool) (seed functions insts : ℕ) → Module
made_module in_target seed functions insts = record { entries = made_entries in_target insts functions 0 seed }
