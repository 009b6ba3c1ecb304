-- The small steps of a run: where it is, what is there, and where it is next (LLVM Language
-- Reference, "Functions", "phi Instruction", "Terminator Instructions").
use Rattle.std.specs.Prelude.{ℕ, zero, suc, ◌+◌, List, [], ◌∷◌, nat_lt, if◌then◌else◌, ◌&&◌, Option, Some, None, slice_get}
use Rattle.ir_tree.specs.declared.tree.Parameter.{Parameter}
use Rattle.ir_tree.specs.declared.tree.Phi.{Phi}
use Rattle.ir_tree.specs.declared.tree.Inst.{Inst}
use Rattle.ir_tree.specs.declared.tree.Terminator.{Terminator}
use Rattle.ir_tree.specs.declared.tree.Block.{Block}
use Rattle.ir_tree.specs.declared.tree.Function.{Function}
use Rattle.ir_tree.specs.Flow.{block_of}
use Rattle.byte_block.specs.declared.value.Value.{Value}
use Rattle.points.specs.declared.machine.Machine.{Machine}
use Rattle.points.specs.declared.outcome.Outcome.TheVariants.{Ub, Beyond}
use Rattle.points.specs.declared.point.Bounds.{Bounds}
use Rattle.points.specs.declared.point.Input.{Input}
use Rattle.points.specs.Run.{Run, Exit, To, Over, ended, act, exit_by, entered, argument_value, is_poison, first_machine}

-- ---- where a run is

-- the index of a block in text order, the index of a parameter, a phi or an instruction, how many
-- backward jumps are left, and the machine
pub record Position : Type 0 where
  pub block : ℕ
  pub index : ℕ
  pub jumps : ℕ
  pub machine : Machine

-- before the parameter at the index, with the arguments from there on; before the phi at the index,
-- or before the instruction at the index
pub data Phase : Type 0 where
  Call : List Value → Phase
  Phis : Phase
  Insts : Phase

pub data State : Type 0 where
  At : Phase → Position → State
  Done : Run → State

abbrev pub first_state : Function → Bounds → Input → State
first_state f bounds input =
    At (Call input.args) (record { block = 0; index = 0; jumps = bounds.turns; machine = first_machine f input })

-- ---- what is there

pub data Item : Type 0 where
  -- a parameter gets an argument, and these are the others
  Gets : Parameter → Value → List Value → Item
  -- all parameters have their arguments: the function begins
  Begins : Item
  -- a phi reads its operand
  Reads : Phi → Item
  -- all phis have read theirs: they get their values at once
  Enters : Block → Item
  Acts : Inst → Item
  Leaves : Terminator → Item
  -- there is no such block
  Missing : Item

abbrev pub parameter_item : Option Parameter → Value → List Value → Item
parameter_item None v vs = Begins
parameter_item (Some p) v vs = Gets p v vs

abbrev pub phi_item : Block → Option Phi → Item
phi_item b None = Enters b
phi_item b (Some phi) = Reads phi

abbrev pub inst_item : Block → Option Inst → Item
inst_item b None = Leaves b.terminator
inst_item b (Some inst) = Acts inst

abbrev pub phi_item_in : Option Block → ℕ → Item
phi_item_in None k = Missing
phi_item_in (Some b) k = phi_item b (slice_get b.phis k)

abbrev pub inst_item_in : Option Block → ℕ → Item
inst_item_in None k = Missing
inst_item_in (Some b) k = inst_item b (slice_get b.insts k)

abbrev pub item_at : Function → Phase → Position → Item
item_at f (Call []) p = Begins
item_at f (Call (v ∷ vs)) p = parameter_item (slice_get f.parameters p.index) v vs
item_at f Phis p = phi_item_in (slice_get f.blocks p.block) p.index
item_at f Insts p = inst_item_in (slice_get f.blocks p.block) p.index

-- ---- one step

abbrev pub onward : Phase → Position → State
onward phase p = At phase (record p { index = p.index + 1 })

-- a poison argument of a noundef parameter is undefined behaviour ("Parameter Attributes", noundef)
abbrev pub after_argument : Parameter → Value → List Value → Position → State
after_argument parameter v vs p =
    if parameter.no_undef && is_poison (argument_value parameter v) then Done (ended Ub p.machine) else onward (Call vs) p

abbrev pub after_inst : Position → Option Machine → State
after_inst p None = Done (ended Ub p.machine)
after_inst p (Some m) = onward Insts (record p { machine = m })

abbrev pub at_block : ℕ → ℕ → Machine → State
at_block to jumps m = At Phis (record { block = to; index = 0; jumps = jumps; machine = m })

-- a backward jump is counted, and one too many ends the run
abbrev pub again : ℕ → ℕ → Machine → State
again to zero m = Done (ended Beyond m)
again to (suc jumps) m = at_block to jumps (record m { turn = m.turn + 1 })

-- a jump to the same or an earlier block is backward
abbrev pub after_jump : ℕ → ℕ → ℕ → Machine → State
after_jump at to jumps m = if nat_lt at to then at_block to jumps m else again to jumps m

abbrev pub after_exit : Function → Position → Exit → State
after_exit f p (Over run) = Done run
after_exit f p (To label m) = after_jump p.block (block_of f label) p.jumps m

abbrev pub after : Function → List ℕ → Item → Position → State
after f tape (Gets parameter v vs) p = after_argument parameter v vs p
after f tape Begins p = At Phis (record p { index = 0 })
after f tape (Reads phi) p = onward Phis p
after f tape (Enters b) p = At Insts (record p { index = 0; machine = entered b p.machine })
after f tape (Acts inst) p = after_inst p (act inst tape p.machine)
after f tape (Leaves end) p = after_exit f p (exit_by f.returns_no_undef end tape p.machine)
after f tape Missing p = Done (ended Ub p.machine)
