-- Where a run is between two copies, by what is known of the copies ahead and of how it ended.
use Rattle.std.specs.Prelude.{◌≡◌, ℕ, ◌<◌, Bool, true, false, cond, is_some, nat_eq, nat_le, ◌%◌, if◌then◌else◌, List, length, map, Option, Some, None, IfSome, slice_get, slice_set}
use Rattle.std.specs.List.{filter, find}
use Rattle.std.specs.Option.{option_map, option_map_or}
use Rattle.ir_tree.specs.declared.tree.Case.{Case}
use Rattle.ir_tree.specs.declared.tree.Terminator.TheVariants as terminator
use Rattle.ir_tree.specs.declared.tree.Block.{Block}
use Rattle.ir_tree.specs.declared.tree.Function.{Function}
use Rattle.ir_tree.specs.Sites.{same_number}
use Rattle.ir_tree.specs.Flow.{targets}
use Rattle.byte_block.specs.declared.value.Value.{Value}
use Rattle.byte_block.specs.declared.value.Value.TheVariants.{Num}
use Rattle.ir_tree.specs.declared.tree.Inst.{Inst}
use Rattle.ir_tree.specs.declared.tree.Inst.TheVariants as inst
use Rattle.points.specs.declared.machine.Machine.{Machine}
use Rattle.points.specs.declared.outcome.Outcome.{Outcome}
use Rattle.points.specs.declared.outcome.Outcome.TheVariants.{Return, Ub, Beyond}
use Rattle.points.specs.declared.point.Input.{Input}
use Rattle.points.specs.Run.{Run, ended, entered, breaks_noundef, first_machine, is_given}
use Rattle.unroll.specs.declared.layered.Edge.{Edge}
use Rattle.unroll.specs.declared.layered.BlockCopy.{BlockCopy}
use Rattle.unroll.specs.Layers.{Where, At, Done, along}
use Rattle.bv_terms.specs.declared.term.TermId.{TermId}
use Rattle.bv_terms.specs.declared.term.Term.{Term}
use Rattle.bv_terms.specs.Trees.{IsTerm, bit_at}
use Rattle.mem_terms.specs.declared.values.SymValue.{SymValue}
use Rattle.mem_terms.specs.declared.blocks.SymBlock.{SymBlock}
use Rattle.mem_terms.specs.Values.{Each, IsSymValue, Reading, value_at}
use Rattle.mem_terms.specs.Memory.{AreGivenBlocks, SymFrame, frame_of, frames_of, memory_at}
use Rattle.run_terms.specs.declared.paths.Test.{Test}
use Rattle.run_terms.specs.declared.state.RunState.{RunState}
use Rattle.run_terms.specs.declared.ending.Ending.{Ending}
use Rattle.run_terms.specs.declared.ending.Left.{Left}
use Rattle.run_terms.specs.declared.setting.Setting.{Setting}
use Rattle.run_terms.specs.declared.frontier.Frontier.{Frontier}
use Rattle.run_terms.specs.declared.frontier.Leaving.{Leaving}
use Rattle.run_terms.specs.declared.state.Tally.{Tally}
use Rattle.run_terms.specs.Runs.{AreTests, HoldAll, LeadsBy, Scene, sight, IsTally, IsState, StateShape, shape_of, Visit, visit_of, Counts, MatchesState}

-- ---- instructions

abbrev pub UsesMemory : Inst → Type 0
UsesMemory (inst.Alloca into number type align) = Unit {0}
UsesMemory (inst.Load into type pointer align) = Unit {0}
UsesMemory (inst.Store value pointer align) = Unit {0}
UsesMemory (inst.GetElementPtr into inbounds nuw type base indices) = Unit {0}
UsesMemory _ = ⊥

-- ---- how a run ended

pub record IsEnding (terms : List Term) (e : Ending) : Type 0 where
  pub ub : IsTerm terms 1 e.ub
  pub beyond : IsTerm terms 1 e.beyond
  pub value : IfSome e.value (IsSymValue terms)
  pub given : AreGivenBlocks (map frame_of e.blocks) terms e.blocks
  pub tally : IsTally terms e.tally
  pub returned : IfSome e.returned (AreTests terms)

abbrev pub ending_at : Reading → List Term → Ending → Outcome
ending_at r terms e = cond (bit_at r.v terms e.ub) Ub (cond (bit_at r.v terms e.beyond) Beyond (Return (option_map (value_at r terms) e.value) (memory_at r terms e.blocks)))

-- a run has returned, and all tests hold in it
abbrev pub HasReturned : (ℕ → ℕ → ℕ) → List Term → Option (List Test) → Type 0
HasReturned v terms None = ⊥
HasReturned v terms (Some path) = HoldAll v terms path

-- this value and these blocks are what is left, and all tests hold
pub record HasLeft (r : Reading) (old new : List Term) (l : Left) (returned : Option SymValue) (given : List SymBlock) : Type 0 where
  pub value : option_map (value_at r new) l.value ≡ option_map (value_at r old) returned
  pub memory : memory_at r new l.blocks ≡ memory_at r old given
  pub path : HoldAll r.v new l.path

-- it ended with this run
pub record EndedSo (g : Scene) (terms : List Term) (e : Ending) (run : Run) : Type 0 where
  pub outcome : ending_at (sight g) terms e ≡ run.outcome
  pub tally : Counts g terms e.tally run.taken
  pub returned : bit_at g.v terms e.ub ≡ false → bit_at g.v terms e.beyond ≡ false → HasReturned g.v terms e.returned

-- it has not ended yet
pub record NotEnded (g : Scene) (terms : List Term) (e : Ending) : Type 0 where
  pub ub : bit_at g.v terms e.ub ≡ false
  pub beyond : bit_at g.v terms e.beyond ≡ false

-- the run returns the value, with the choices of the tally, and leaves the given blocks of the machine
pub record IsReturned (g : Scene) (terms : List Term) (t : Tally) (value : Option SymValue) (m : Machine) (run : Run) : Type 0 where
  pub tally : Counts g terms t run.taken
  pub outcome : Return (option_map (value_at (sight g) terms) value) (filter is_given m.memory) ≡ run.outcome

abbrev pub MatchesEnding : Scene → List Term → Ending → Option Where → Type 0
MatchesEnding g terms e None = NotEnded g terms e
MatchesEnding g terms e (Some (At n m)) = NotEnded g terms e
MatchesEnding g terms e (Some (Done run)) = EndedSo g terms e run

-- whether it has a value, and what is known of its given blocks
pub record EndingShape : Type 0 where
  pub valued : Bool
  pub frames : List SymFrame

abbrev pub ending_shape : Ending → EndingShape
ending_shape e = record { valued = is_some e.value; frames = map frame_of e.blocks }

-- where the condition holds a run that has not ended yet ends with the outcome, and with the choices of the tally; otherwise nothing changes
pub record Ends (old new : List Term) (before after : Ending) (c : TermId) (t : Tally) (outcome : Scene → Outcome) : Type 0 where
  pub made : IsEnding new after
  pub shape : ending_shape after ≡ ending_shape before
  pub stays : (g : Scene) (at : Option Where) → bit_at g.v old c ≡ false → MatchesEnding g old before at → MatchesEnding g new after at
  pub goes : (g : Scene) (taken : List ℕ) → bit_at g.v old c ≡ true → Counts g old t taken → NotEnded g old before → EndedSo g new after (record { outcome = outcome g; taken = taken })

-- ---- the copies ahead

abbrev pub AreStates : List Term → List (Option RunState) → Type 0
AreStates terms ahead = Each (λ (entry : Option RunState). IfSome entry (IsState terms)) ahead

-- each has this shape
abbrev pub HaveShape : StateShape → List (Option RunState) → Type 0
HaveShape shape ahead = Each (λ (entry : Option RunState). IfSome entry (λ (s : RunState). shape_of s ≡ shape)) ahead

abbrev pub IsUnreached : Scene → List Term → Option RunState → Type 0
IsUnreached g terms entry = IfSome entry (λ (s : RunState). bit_at g.v terms s.alive ≡ false)

-- the run is at the entry of the copy of a number, its phis done, and at no other
pub record MatchesEntry (g : Scene) (terms : List Term) (ahead : List (Option RunState)) (n : ℕ) (m : Machine) : Type 0 where
  pub entry : RunState
  pub is : slice_get ahead n ≡ Some (Some entry)
  pub alive : bit_at g.v terms entry.alive ≡ true
  pub matches : MatchesState g terms (visit_of m) entry m
  pub others : Each (IsUnreached g terms) (slice_set ahead n None)

abbrev pub MatchesAhead : Scene → List Term → List (Option RunState) → Option Where → Type 0
MatchesAhead g terms ahead None = Each (IsUnreached g terms) ahead
MatchesAhead g terms ahead (Some (At n m)) = MatchesEntry g terms ahead n m
MatchesAhead g terms ahead (Some (Done run)) = Each (IsUnreached g terms) ahead

-- ---- both

pub record IsFrontier (terms : List Term) (w : Frontier) : Type 0 where
  pub ahead : AreStates terms w.ahead
  pub ending : IsEnding terms w.ending

-- the states that the run of a function may be in
abbrev pub shape_in : Setting → StateShape
shape_in s = record { names = length s.f.now.names; frames = frames_of s.layout.now }

-- an entry for each copy, and states and an ending as the function has them
pub record HasShape (s : Setting) (w : Frontier) : Type 0 where
  pub ahead : HaveShape (shape_in s) w.ahead
  pub count : length w.ahead ≡ length s.copies.now
  pub ending : ending_shape w.ending ≡ record { valued = is_some s.f.now.returns; frames = frames_of s.layout.now }

-- None is a run that has left one copy and isn't yet at another
pub record MatchesFrontier (g : Scene) (terms : List Term) (w : Frontier) (at : Option Where) : Type 0 where
  pub ahead : MatchesAhead g terms w.ahead at
  pub ending : MatchesEnding g terms w.ending at

-- ---- where a jump leads

-- the machine at the entry of a copy, its phis done
abbrev pub entering : Function → Option BlockCopy → Machine → Option Machine
entering f None m = None
entering f (Some copy) m = option_map (λ (b : Block). entered b (record m { turn = copy.turn })) (slice_get f.blocks copy.block)

abbrev pub arrived : ℕ → Machine → Option Machine → Where
arrived n m None = Done (ended Ub m)
arrived n m (Some entry) = At n entry

-- a run that goes to a copy before this number, or to one that does not exist, is at its end
abbrev pub placed : Function → List BlockCopy → (from : ℕ) → Where → Where
placed f copies from (Done run) = Done run
placed f copies from (At n m) = if nat_le from n then arrived n m (entering f (slice_get copies n) m) else Done (ended Ub m)

-- where `holds` is true the run goes there from the state that it is in; otherwise nothing changes
pub record Simulates (g : Scene) (old new : List Term) (before after : Frontier) (holds : Bool) (at : Visit) (s : RunState) (to : Machine → Where) : Type 0 where
  pub stays : (at : Option Where) → holds ≡ false → MatchesFrontier g old before at → MatchesFrontier g new after at
  pub goes : (m : Machine) → holds ≡ true → MatchesState g old at s m → MatchesFrontier g old before None → MatchesFrontier g new after (Some (to m))

-- a run that may leave its block: the frontier and its state are of the function's shape
pub record IsLeaving (setting : Setting) (terms : List Term) (w : Frontier) (l : Leaving) : Type 0 where
  pub frontier : IsFrontier terms w
  pub shape : HasShape setting w
  pub state : IsState terms l.state.now
  pub fits : shape_of l.state.now ≡ shape_in setting
  pub c : IsTerm terms 1 l.c
  pub path : LeadsBy terms l.c l.path.now

-- the frontier after has the function's shape, and where `on` holds the leaving run goes there
pub record Leaves (on : Scene → Type 0) (setting : Setting) (l : Leaving) (old new : List Term) (before after : Frontier) (to : Scene → Machine → Where) : Type 0 where
  pub frontier : IsFrontier new after
  pub shape : HasShape setting after
  pub simulates : (g : Scene) (turn : ℕ) → on g
      → Simulates g old new before after (bit_at g.v old l.c) (record { label = l.label; turn = turn }) l.state.now (λ m. placed setting.f.now setting.copies.now l.ahead (to g m))

-- in every scene
abbrev pub Everywhere : Scene → Type 0
Everywhere g = Unit {0}

-- a run begins at the first copy, unless an argument breaks `noundef`
abbrev pub first_place : Function → Input → Where
first_place f input = if breaks_noundef f.parameters input.args then Done (ended Ub (first_machine f input)) else At 0 (first_machine f input)

-- ---- by the edges of a branch and of a switch

-- a condition of one bit; poison is undefined behaviour
abbrev pub branched : Value → (if_true if_false : Edge) → Machine → Where
branched (Num n) if_true if_false m = along (if nat_eq (n % 2) 1 then if_true else if_false) m
branched _ if_true if_false m = Done (ended Ub m)

-- the edge of the first case with this number of n bits, or the default's; poison is undefined behaviour
abbrev pub switched_on : ℕ → Value → (Case → Edge) → Edge → List Case → Machine → Where
switched_on width (Num n) edge default cases m = along (option_map_or edge (find (λ (c : Case). same_number width c.value n) cases) default) m
switched_on width _ edge default cases m = Done (ended Ub m)

-- ---- the copies of a function

-- each edge is that of its label
abbrev pub AreByLabel : List ℕ → List Edge → Type 0
AreByLabel labels edges = (edge : ℕ → Edge) × (edges ≡ map edge labels)

pub record IsCopyIn (f : Function) (copy : BlockCopy) : Type 0 where
  pub block : Block
  pub is : slice_get f.blocks copy.block ≡ Some block
  pub edges : AreByLabel (targets block.terminator) copy.edges
