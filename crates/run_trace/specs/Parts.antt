-- What the parts of a trace promise.
use Rattle.std.specs.Prelude.{◌≡◌, ◌⊎◌, ℕ, ◌+◌, ◌<◌, List, [], ◌∷◌, ◌++◌, length, Bool, true, false, ◌&&◌, not, nat_eq, nat_lt, if◌then◌else◌, Option, Some, None, IsSomeAnd, slice_get}
use Rattle.std.specs.List.{list_any}
use Rattle.ir_tree.specs.declared.tree.TypedOperand.{TypedOperand}
use Rattle.ir_tree.specs.declared.tree.Inst.{Inst}
use Rattle.ir_tree.specs.declared.tree.Terminator.{Terminator}
use Rattle.ir_tree.specs.declared.tree.Block.{Block}
use Rattle.ir_tree.specs.declared.tree.Function.{Function}
use Rattle.byte_block.specs.declared.value.Value.{Value}
use Rattle.points.specs.declared.machine.Machine.{Machine}
use Rattle.points.specs.declared.outcome.Outcome.TheVariants.{Ub}
use Rattle.points.specs.Run.{Exit, ended, exit_by}
use Rattle.points.specs.Run as exit
use Rattle.choice_interp.specs.Left.{left_by, exit_with}
use Rattle.choice_interp.specs.declared.ending.Ending.{Ending}
use Rattle.choice_interp.specs.declared.ending.Ending.TheVariants as ending
use Rattle.run_trace.specs.declared.steps.Reason.{Reason}
use Rattle.run_trace.specs.declared.steps.Reason.TheVariants.{PoisonOperand}
use Rattle.run_trace.specs.declared.steps.Step.{Step}
use Rattle.run_trace.specs.declared.insts.Before.{Before}
use Rattle.run_trace.specs.declared.ends.Leaving.{Leaving}
use Rattle.run_trace.specs.declared.ends.Next.{Next}
use Rattle.run_trace.specs.declared.ends.Next.TheVariants.{Enter, Over}
use Rattle.run_trace.specs.Operands.{operands_of, effective_operands, values_of, is_poison_name, location_of}
use Rattle.run_trace.specs.Items.{Position, Phase, Phis, Insts, State, At, Done, Item}
use Rattle.run_trace.specs.Reasons.{is_some_poison, IsEndReason}
use Rattle.run_trace.specs.Causes.{IsCauseOf}
use Rattle.run_trace.specs.Trace.{block_of_exit, is_no_return, Shows, Leads}

abbrev pub position : ℕ → ℕ → ℕ → Machine → Position
position at k jumps m = record { block = at; index = k; jumps = jumps; machine = m }

-- what is shown of an instruction and doesn't depend on what it does
pub record IsBefore (inst : Inst) (m : Machine) (before : Before) : Type 0 where
  pub turn : before.turn ≡ m.turn
  pub read : before.read ≡ length m.taken
  pub operands : before.operands ≡ values_of m.registers (operands_of inst)
  pub location : before.location ≡ location_of inst m
  pub inherits : before.inherits ≡ list_any (is_poison_name m.registers) (effective_operands inst m.registers)
  pub cause : IsCauseOf inst m before.cause

-- an item at an index of a block, in each function and with every number of jumps left
abbrev pub ShowsAt : Item → ℕ → ℕ → List ℕ → Machine → Step → Type 0
ShowsAt item at k tape m step = (f : Function) (jumps : ℕ) → Shows f tape item (position at k jumps m) step

-- the steps go on from a place in a block to a state
abbrev pub GoesOn : Block → ℕ → Phase → ℕ → Machine → List Step → List ℕ → List Step → (ℕ → State) → Type 0
GoesOn b at phase k m old tape new to =
    (f : Function) (first : State) (jumps : ℕ) → slice_get f.blocks at ≡ Some b
    → Leads f tape first old (At phase (position at k jumps m)) → Leads f tape first new (to jumps)

-- after the instructions of a block: before its terminator, or the end by undefined behaviour
abbrev pub after_insts : Bool → Block → ℕ → Machine → ℕ → State
after_insts true b at m jumps = At Insts (position at (length b.insts) jumps m)
after_insts false b at m jumps = Done (ended Ub m)

-- after a block
abbrev pub state_after : Next → Machine → State
state_after (Enter at jumps) m = At Phis (position at 0 jumps m)
state_after (Over ending) m = Done (left_by ending m)

-- a later block, or one of the backward jumps is taken
abbrev pub IsOnward : ℕ → ℕ → Next → Type 0
IsOnward at jumps (Enter to rest) = ((at < to) × (rest ≡ jumps)) ⊎ (rest + 1 ≡ jumps)
IsOnward at jumps (Over ending) = Unit {0}

-- one more step, of which this holds
abbrev pub AddsStep : (Step → Type 0) → List Step → List Step → Type 0
AddsStep P old new = (step : Step) × P step × (new ≡ old ++ step ∷ [])

-- the backward jumps that were taken and those that are left
abbrev pub TurnsLeft : ℕ → ℕ → Next → Type 0
TurnsLeft all turn (Enter to rest) = turn + rest ≡ all
TurnsLeft all turn (Over ending) = Unit {0}

-- ---- how a block is left

-- the run is over by it, and didn't return
abbrev pub IsFailedExit : Exit → Type 0
IsFailedExit (exit.To label m) = ⊥
IsFailedExit (exit.Over run) = is_no_return run.outcome ≡ true

-- to this block it is one backward jump too many
abbrev pub is_too_many : ℕ → ℕ → Option ℕ → Bool
is_too_many at jumps None = false
is_too_many at jumps (Some to) = not (nat_lt at to) && nat_eq jumps 0

-- a machine is left by a terminator, and another one is left
pub record IsLeaving (f : Function) (end : Terminator) (tape : List ℕ) (m n : Machine) (leaving : Leaving) : Type 0 where
  pub exit : exit_by f.returns_no_undef end tape m ≡ exit_with leaving.left n
  pub to : leaving.to ≡ block_of_exit f (exit_with leaving.left n)
  pub registers : n.registers ≡ m.registers
  pub turn : n.turn ≡ m.turn
  pub read : leaving.read ≡ length m.taken

-- of a terminator by which the run ends so, in a machine with these registers
abbrev pub IsReasonOver : Ending → List Value → List TypedOperand → Terminator → Option Reason → Type 0
IsReasonOver (ending.Return v) registers operands end o =
    o ≡ (if is_some_poison v && not (list_any (is_poison_name registers) operands) then Some PoisonOperand else None)
IsReasonOver _ registers operands end o =
    (f : Function) (tape : List ℕ) (at jumps : ℕ) (m : Machine) → IsFailedExit (exit_by f.returns_no_undef end tape m)
    → IsSomeAnd o (λ r. IsEndReason r f end tape at jumps m)
