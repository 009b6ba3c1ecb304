-- What a function does whose registers may carry undef (LLVM Language Reference, "Undefined Values"): each use of undef
-- may be another value. A register then holds a tree, operations over values and undefs, and each use of the register
-- gives each undef of its tree a value anew. In all else it is the run of `points`, specs/Run.
use Rattle.std.specs.Prelude.{ℕ, zero, suc, ◌+◌, List, [], ◌∷◌, length, replicate, nat_lt, if◌then◌else◌, Bool, true, false, Option, Some, None, is_some, slice_get, slice_index_or, slice_set}
use Rattle.std.specs.List.{list_any}
use Rattle.ir_tree.specs.declared.tree.IrType.{IrType}
use Rattle.ir_tree.specs.declared.tree.IrType.TheVariants as type
use Rattle.ir_tree.specs.declared.tree.Operand.{Operand}
use Rattle.ir_tree.specs.declared.tree.Operand.TheVariants as operand
use Rattle.ir_tree.specs.declared.tree.TypedOperand.{TypedOperand}
use Rattle.ir_tree.specs.declared.tree.Op.{Op}
use Rattle.ir_tree.specs.declared.tree.Predicate.{Predicate}
use Rattle.ir_tree.specs.declared.tree.Cast.{Cast as Conversion}
use Rattle.ir_tree.specs.declared.tree.Inst.{Inst}
use Rattle.ir_tree.specs.declared.tree.Inst.TheVariants as inst
use Rattle.ir_tree.specs.declared.tree.Phi.{Phi}
use Rattle.ir_tree.specs.declared.tree.Terminator.{Terminator}
use Rattle.ir_tree.specs.declared.tree.Terminator.TheVariants as terminator
use Rattle.ir_tree.specs.declared.tree.Block.{Block}
use Rattle.ir_tree.specs.declared.tree.Function.{Function}
use Rattle.ir_tree.specs.Types.{one_bit}
use Rattle.ir_tree.specs.Flow.{block_of, results_of}
use Rattle.ir_tree.specs.Carrying.{carrying_operands}
use Rattle.byte_block.specs.declared.value.Value.{Value}
use Rattle.points.specs.declared.machine.Machine.{Machine}
use Rattle.points.specs.declared.outcome.Outcome.TheVariants.{Ub, Beyond}
use Rattle.points.specs.declared.point.Bounds.{Bounds}
use Rattle.points.specs.declared.point.Input.{Input}
use Rattle.points.specs.Table.{defined_result, compared, cast_value, selected}
use Rattle.points.specs.Run.{Run, Exit, To, Over, operand_value, typed_value, choice_of, with_taken, frozen, act, entered, ended, returns, exit_by, first_machine, breaks_noundef}

-- ---- trees

-- a value, an undef of a type, or an operation on these
pub data Tree : Type 0 where
  Known : Value → Tree
  Undef : IrType → Tree
  Binary : Op → ℕ → Tree → Tree → Tree
  Icmp : Predicate → Bool → ℕ → Tree → Tree → Tree
  Cast : Conversion → ℕ → ℕ → Tree → Tree
  Select : Tree → IrType → Tree → IrType → Tree → Tree

-- a value that was sampled, and the machine that has taken the choices for it
pub record Sample : Type 0 where
  pub value : Value
  pub machine : Machine

abbrev pub chosen : IrType → List ℕ → Machine → Sample
chosen type tape m = record { value = (choice_of type tape m).value; machine = with_taken m (choice_of type tape m) }

-- Each undef is a choice, from left to right, and operations have the results of the table. None of them is undefined
-- behaviour: a division has no tree for an operand.
unfoldable pub sample : Tree → List ℕ → Machine → Sample
sample (Known v) tape m = record { value = v; machine = m }
sample (Undef type) tape m = chosen type tape m
sample (Binary op width left right) tape m =
    let l : Sample = sample left tape m in
    let r : Sample = sample right tape l.machine in
    record { value = defined_result op width l.value r.value; machine = r.machine }
sample (Icmp predicate same_sign width left right) tape m =
    let l : Sample = sample left tape m in
    let r : Sample = sample right tape l.machine in
    record { value = compared predicate same_sign width l.value r.value; machine = r.machine }
sample (Cast cast from to tree) tape m =
    let s : Sample = sample tree tape m in
    record { value = cast_value cast from to s.value; machine = s.machine }
sample (Select condition true_type if_true false_type if_false) tape m =
    let c : Sample = sample condition tape m in
    let t : Sample = sample if_true tape c.machine in
    let e : Sample = sample if_false tape t.machine in
    record { value = selected c.value (typed_value true_type t.value) (typed_value false_type e.value); machine = e.machine }

-- ---- a machine with trees

-- a register holds its tree where it has one, and otherwise its value
pub record TreeMachine : Type 0 where
  pub machine : Machine
  pub trees : List (Option Tree)

abbrev pub register_tree : TreeMachine → Operand → Option Tree
register_tree t (operand.Local name) = slice_index_or t.trees name None
register_tree t _ = None

-- an operand is undef, or holds a tree
abbrev pub holds_undef : TreeMachine → Operand → Bool
holds_undef t operand.Undef = true
holds_undef t o = is_some (register_tree t o)

abbrev pub tree_or : Option Tree → Value → Tree
tree_or (Some tree) v = tree
tree_or None v = Known v

-- what an operand of a type holds
abbrev pub operand_tree : TreeMachine → IrType → Operand → Tree
operand_tree t type operand.Undef = Undef type
operand_tree t type o = tree_or (register_tree t o) (operand_value t.machine.registers o)

-- the tree that an instruction makes of what its operands hold
abbrev pub tree_of : TreeMachine → Inst → Option Tree
tree_of t (inst.Binary into op width left right) =
    Some (Binary op width.bits (operand_tree t (type.Int width) left) (operand_tree t (type.Int width) right))
tree_of t (inst.Icmp into predicate same_sign width left right) =
    Some (Icmp predicate same_sign width.bits (operand_tree t (type.Int width) left) (operand_tree t (type.Int width) right))
tree_of t (inst.Cast into cast from o to) = Some (Cast cast from.bits to.bits (operand_tree t (type.Int from) o))
tree_of t (inst.Select into condition if_true if_false) =
    Some (Select (operand_tree t (type.Int one_bit) condition)
    if_true.of_type (operand_tree t if_true.of_type if_true.operand)
    if_false.of_type (operand_tree t if_false.of_type if_false.operand))
tree_of t (inst.Freeze into type o) = None
tree_of t (inst.Alloca into number type align) = None
tree_of t (inst.Load into type pointer align) = None
tree_of t (inst.Store v pointer align) = None
tree_of t (inst.GetElementPtr into inbounds nuw type base indices) = None

-- these names hold this
unfoldable pub with_tree : List ℕ → Option Tree → List (Option Tree) → List (Option Tree)
with_tree [] tree trees = trees
with_tree (name ∷ names) tree trees = with_tree names tree (slice_set trees name tree)

-- ---- one instruction

-- the machine behind an instruction; its result, if it has one, holds a value
abbrev pub as_value : Inst → TreeMachine → Option Machine → Option TreeMachine
as_value i t None = None
as_value i t (Some m) = Some (record { machine = m; trees = with_tree (results_of i) None t.trees })

-- freeze chooses one value for each undef of the tree, and one more where the result is poison
abbrev pub frozen_tree : ℕ → IrType → Option Tree → List ℕ → TreeMachine → Option Machine → Option Machine
frozen_tree into type None tape t otherwise = otherwise
frozen_tree into type (Some tree) tape t otherwise =
    let s : Sample = sample tree tape t.machine in
    Some (frozen tape s.machine into type (typed_value type s.value))

-- what an instruction does that makes no tree
abbrev pub act_on_values : Inst → List ℕ → TreeMachine → Option Machine
act_on_values (inst.Freeze into type o) tape t = frozen_tree into type (register_tree t o) tape t (act (inst.Freeze into type o) tape t.machine)
act_on_values i tape t = act i tape t.machine

-- an instruction with an operand that is undef or holds a tree makes a tree, which is no undefined behaviour
abbrev pub act_with_trees : Inst → List ℕ → TreeMachine → Option TreeMachine
act_with_trees i tape t =
    if list_any (holds_undef t) (carrying_operands i)
    then Some (record t { trees = with_tree (results_of i) (tree_of t i) t.trees })
    else as_value i t (act_on_values i tape t)

-- ---- one block

unfoldable pub phi_results : List Phi → List ℕ
phi_results [] = []
phi_results (phi ∷ phis) = phi.into ∷ phi_results phis

abbrev pub entered_with_trees : Block → TreeMachine → TreeMachine
entered_with_trees b t = record { machine = entered b t.machine; trees = with_tree (phi_results b.phis) None t.trees }

-- how a block is left: to the block of a label, or with the end of the run
pub data TreeExit : Type 0 where
  GoTo : ℕ → TreeMachine → TreeExit
  Ended : Run → TreeExit

abbrev pub left_by : TreeMachine → Exit → TreeExit
left_by t (To label m) = GoTo label (record t { machine = m })
left_by t (Over run) = Ended run

-- a tree that is returned is sampled, and the return isn't noundef
abbrev pub returned_tree : TypedOperand → Option Tree → List ℕ → TreeMachine → TreeExit → TreeExit
returned_tree returned None tape t otherwise = otherwise
returned_tree returned (Some tree) tape t otherwise =
    let s : Sample = sample tree tape t.machine in
    Ended (returns (Some (typed_value returned.of_type s.value)) s.machine)

abbrev pub exit_with_trees : Bool → Terminator → List ℕ → TreeMachine → TreeExit
exit_with_trees false (terminator.Return (Some returned)) tape t =
    returned_tree returned (register_tree t returned.operand) tape t (left_by t (exit_by false (terminator.Return (Some returned)) tape t.machine))
exit_with_trees no_undef end tape t = left_by t (exit_by no_undef end tape t.machine)

abbrev pub go_after : Option TreeMachine → TreeMachine → (TreeMachine → TreeExit) → TreeExit
go_after None t go = Ended (ended Ub t.machine)
go_after (Some t') t go = go t'

unfoldable pub insts_with_trees : Bool → List Inst → Terminator → List ℕ → TreeMachine → TreeExit
insts_with_trees no_undef [] end tape t = exit_with_trees no_undef end tape t
insts_with_trees no_undef (i ∷ insts) end tape t = go_after (act_with_trees i tape t) t (insts_with_trees no_undef insts end tape)

abbrev pub block_with_trees : Bool → Option Block → List ℕ → TreeMachine → TreeExit
block_with_trees no_undef None tape t = Ended (ended Ub t.machine)
block_with_trees no_undef (Some b) tape t = insts_with_trees no_undef b.insts b.terminator tape (entered_with_trees b t)

-- ---- the run

abbrev pub TreeGo : Type 0
TreeGo = ℕ → TreeMachine → Run

-- a jump to the same or an earlier block is backward, and is counted
abbrev pub jump_with_trees : ℕ → ℕ → TreeMachine → TreeGo → TreeGo → Run
jump_with_trees at to t onward again =
    if nat_lt at to then onward to t else again to (record t { machine = record t.machine { turn = t.machine.turn + 1 } })

abbrev pub go_on_with_trees : Function → TreeExit → ℕ → TreeGo → TreeGo → Run
go_on_with_trees f (Ended run) at onward again = run
go_on_with_trees f (GoTo label t) at onward again = jump_with_trees at (block_of f label) t onward again

-- up to the next backward jump; the number of blocks bounds the forward ones
unfoldable pub forward_with_trees : Function → List ℕ → TreeGo → ℕ → TreeGo
forward_with_trees f tape again zero at t = ended Ub t.machine
forward_with_trees f tape again (suc left) at t =
    go_on_with_trees f (block_with_trees f.returns_no_undef (slice_get f.blocks at) tape t) at (forward_with_trees f tape again left) again

unfoldable pub turns_with_trees : Function → List ℕ → ℕ → TreeGo
turns_with_trees f tape zero = forward_with_trees f tape (λ at t. ended Beyond t.machine) (length f.blocks)
turns_with_trees f tape (suc turns) = forward_with_trees f tape (turns_with_trees f tape turns) (length f.blocks)

abbrev pub first_tree_machine : Function → Input → TreeMachine
first_tree_machine f input = record { machine = first_machine f input; trees = replicate (length f.names) None }

-- the run of a function on an input and a tape, whose registers may hold trees
abbrev pub run_with_trees : Function → Bounds → Input → List ℕ → Run
run_with_trees f bounds input tape =
    if breaks_noundef f.parameters input.args then ended Ub (first_machine f input)
    else turns_with_trees f tape bounds.turns 0 (first_tree_machine f input)
