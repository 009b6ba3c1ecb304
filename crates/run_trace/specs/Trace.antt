-- A run as a chain of small steps, and what is shown of each.
use Rattle.std.specs.Prelude.{◌≡◌, ℕ, List, [], ◌∷◌, ◌++◌, length, Bool, true, false, ◌&&◌, ◌||◌, not, Option, Some, None}
use Rattle.std.specs.List.{list_any}
use Rattle.ir_tree.specs.declared.tree.TypedOperand.{TypedOperand}
use Rattle.ir_tree.specs.declared.tree.Function.{Function}
use Rattle.ir_tree.specs.Flow.{block_of}
use Rattle.byte_block.specs.declared.value.Value.{Value}
use Rattle.points.specs.declared.machine.Machine.{Machine}
use Rattle.points.specs.declared.outcome.Outcome.{Outcome}
use Rattle.points.specs.declared.outcome.Outcome.TheVariants.{Return, Ub, Beyond}
use Rattle.points.specs.declared.point.Bounds.{Bounds}
use Rattle.points.specs.declared.point.Input.{Input}
use Rattle.points.specs.Run.{Exit, To, Over, act, exit_by, phi_value, argument_value, is_poison, run_of}
use Rattle.run_trace.specs.declared.steps.Site.{Site}
use Rattle.run_trace.specs.declared.steps.Site.TheVariants as site
use Rattle.run_trace.specs.declared.steps.Location.{Location}
use Rattle.run_trace.specs.declared.steps.Reason.{Reason}
use Rattle.run_trace.specs.declared.steps.Reason.TheVariants.{MissingBlock}
use Rattle.run_trace.specs.declared.steps.Step.{Step}
use Rattle.run_trace.specs.declared.steps.Trace.{Trace}
use Rattle.run_trace.specs.Operands.{operands_of, phi_operand, end_operands, effective_operands, values_of, is_poison_name, name_of, value_after, words_since, words_after, location_of}
use Rattle.run_trace.specs.Items.{Position, Phase, State, At, Done, first_state, Item, Gets, Begins, Reads, Enters, Acts, Leaves, Missing, item_at, after}
use Rattle.run_trace.specs.Reasons.{is_some_poison, IsArgumentReason, IsPhiReason, IsInstReason, IsEndReason}

-- ---- what a step shows

-- nothing is shown where a function begins, and where a block's phis, which were shown, get their values
abbrev pub site_of : Item → ℕ → Option Site
site_of (Gets parameter v vs) k = Some (site.Parameter k)
site_of Begins k = None
site_of (Reads phi) k = Some (site.Phi k)
site_of (Enters b) k = None
site_of (Acts inst) k = Some (site.Inst k)
site_of (Leaves end) k = Some site.Terminator
site_of Missing k = Some site.NoBlock

abbrev pub operands_in : Item → Machine → List TypedOperand
operands_in (Reads phi) m = phi_operand m phi
operands_in (Acts inst) m = operands_of inst
operands_in (Leaves end) m = end_operands end
operands_in _ m = []

abbrev pub operands_read : Item → Machine → List Value
operands_read (Gets parameter v vs) m = v ∷ []
operands_read item m = values_of m.registers (operands_in item m)

abbrev pub value_returned : Outcome → Option Value
value_returned (Return v memory) = v
value_returned Ub = None
value_returned Beyond = None

abbrev pub value_of_exit : Exit → Option Value
value_of_exit (Over run) = value_returned run.outcome
value_of_exit (To label m) = None

abbrev pub result_of : Function → List ℕ → Item → Machine → Option Value
result_of f tape (Gets parameter v vs) m = Some (argument_value parameter v)
result_of f tape (Reads phi) m = Some (phi_value m phi)
result_of f tape (Acts inst) m = value_after (act inst tape m) (name_of inst)
result_of f tape (Leaves end) m = value_of_exit (exit_by f.returns_no_undef end tape m)
result_of f tape _ m = None

abbrev pub taken_by_exit : Exit → List ℕ
taken_by_exit (Over run) = run.taken
taken_by_exit (To label m) = m.taken

abbrev pub words_of : Function → List ℕ → Item → Machine → List ℕ
words_of f tape (Acts inst) m = words_after m (act inst tape m)
words_of f tape (Leaves end) m = words_since m (taken_by_exit (exit_by f.returns_no_undef end tape m))
words_of f tape _ m = []

abbrev pub block_of_exit : Function → Exit → Option ℕ
block_of_exit f (Over run) = None
block_of_exit f (To label m) = Some (block_of f label)

abbrev pub target_of : Function → List ℕ → Item → Machine → Option ℕ
target_of f tape (Leaves end) m = block_of_exit f (exit_by f.returns_no_undef end tape m)
target_of f tape _ m = None

abbrev pub location_in : Item → Machine → Option Location
location_in (Acts inst) m = location_of inst m
location_in _ m = None

-- ---- which steps have a reason

abbrev pub is_no_return : Outcome → Bool
is_no_return (Return v memory) = false
is_no_return Ub = true
is_no_return Beyond = true

-- the run is over, and didn't return
abbrev pub is_failure : State → Bool
is_failure (At phase p) = false
is_failure (Done run) = is_no_return run.outcome

-- an operand was poison before the step
abbrev pub has_poison : Item → Machine → Bool
has_poison (Gets parameter v vs) m = is_poison v
has_poison (Acts inst) m = list_any (is_poison_name m.registers) (effective_operands inst m.registers)
has_poison item m = list_any (is_poison_name m.registers) (operands_in item m)

-- it fails, or its result is the first poison
abbrev pub needs_reason : Function → List ℕ → Item → Position → Bool
needs_reason f tape item p =
    is_failure (after f tape item p) || (is_some_poison (result_of f tape item p.machine) && not (has_poison item p.machine))

abbrev pub IsReason : Function → List ℕ → Item → Position → Reason → Type 0
IsReason f tape (Gets parameter v vs) p r = IsArgumentReason r parameter v
IsReason f tape Begins p r = ⊥
IsReason f tape (Reads phi) p r = IsPhiReason r phi p.machine
IsReason f tape (Enters b) p r = ⊥
IsReason f tape (Acts inst) p r = IsInstReason r inst tape p.machine
IsReason f tape (Leaves end) p r = IsEndReason r f end tape p.block p.jumps p.machine
IsReason f tape Missing p r = r ≡ MissingBlock

-- exactly the steps that need a reason have one, and it is true
abbrev pub HasReason : Function → List ℕ → Item → Position → Option Reason → Type 0
HasReason f tape item p None = needs_reason f tape item p ≡ false
HasReason f tape item p (Some r) = (needs_reason f tape item p ≡ true) × IsReason f tape item p r

pub record Shows (f : Function) (tape : List ℕ) (item : Item) (p : Position) (step : Step) : Type 0 where
  pub block : step.block ≡ p.block
  pub turn : step.turn ≡ p.machine.turn
  pub site : site_of item p.index ≡ Some step.site
  pub operands : step.operands ≡ operands_read item p.machine
  pub result : step.result ≡ result_of f tape item p.machine
  pub taken : step.taken ≡ words_of f tape item p.machine
  pub to : step.to ≡ target_of f tape item p.machine
  pub location : step.location ≡ location_in item p.machine
  pub reason : HasReason f tape item p step.reason

-- ---- the chain

-- from the first state to the second in small steps, of which these are shown
pub data Leads (f : Function) (tape : List ℕ) (first : State) : List Step → State → Type 0 where
  stays : Leads f tape first [] first
  shown : {steps : List Step} {phase : Phase} {p : Position} (step : Step) → Leads f tape first steps (At phase p)
      → Shows f tape (item_at f phase p) p step
      → Leads f tape first (steps ++ step ∷ []) (after f tape (item_at f phase p) p)
  silent : {steps : List Step} {phase : Phase} {p : Position} → Leads f tape first steps (At phase p)
      → site_of (item_at f phase p) p.index ≡ None
      → Leads f tape first steps (after f tape (item_at f phase p) p)

-- the steps lead from the call to the end of the run, which is the one that is defined
pub record IsTraceOf (f : Function) (bounds : Bounds) (input : Input) (tape : List ℕ) (trace : Trace) : Type 0 where
  pub steps : Leads f tape (first_state f bounds input) trace.steps (Done (run_of f bounds input tape))
  pub outcome : trace.outcome ≡ (run_of f bounds input tape).outcome
  pub read : trace.read ≡ length (run_of f bounds input tape).taken
