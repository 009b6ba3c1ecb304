-- What the terms of a run so far denote.
use Rattle.std.specs.Prelude.{◌≡◌, ℕ, ◌+◌, ◌≤◌, Bool, true, false, ◌&&◌, ◌||◌, nat_eq, nat_lt, not, List, [], ◌∷◌, length, map, take, drop, Option, Some, None, slice_get, slice_index}
use Rattle.ir_tree.specs.declared.tree.Inst.{Inst}
use Rattle.points.specs.declared.machine.Machine.{Machine}
use Rattle.points.specs.Run.{act}
use Rattle.bv_terms.specs.declared.term.TermId.{TermId}
use Rattle.bv_terms.specs.declared.term.Term.{Term}
use Rattle.bv_terms.specs.Trees.{IsTerm, bit_at, term_at}
use Rattle.mem_terms.specs.declared.blocks.SymBlock.{SymBlock}
use Rattle.mem_terms.specs.Values.{Each, AreSymValues, Reading, first_local, reading, values_at}
use Rattle.mem_terms.specs.Memory.{AreGivenBlocks, AreSymBlocks, SymFrame, frame_of, memory_at}
use Rattle.mem_terms.specs.Inputs.{words_at}
use Rattle.run_terms.specs.declared.paths.Test.{Test}
use Rattle.run_terms.specs.declared.state.Tally.{Tally}
use Rattle.run_terms.specs.declared.state.RunMemory.{RunMemory}
use Rattle.run_terms.specs.declared.state.RunState.{RunState}

-- ---- choices

-- each choice is the tape's word at its index, the first of these at k
abbrev pub fits_from : List ℕ → ℕ → List ℕ → Bool
fits_from tape k [] = true
fits_from tape k (c ∷ cs) = nat_eq (slice_index tape k) c && fits_from tape (k + 1) cs

-- the words that weren't read are 0, the first of these at k
abbrev pub zeros_past : (read k : ℕ) → List ℕ → Bool
zeros_past read k [] = true
zeros_past read k (w ∷ ws) = (nat_lt k read || nat_eq w 0) && zeros_past read (k + 1) ws

-- ---- tests

-- the bit of each has the value that the path says
abbrev pub HoldAll : (ℕ → ℕ → ℕ) → List Term → List Test → Type 0
HoldAll v terms path = Each (λ (t : Test). bit_at v terms t.bit ≡ t.holds) path

abbrev pub AreTests : List Term → List Test → Type 0
AreTests terms path = Each (λ (t : Test). IsTerm terms 1 t.bit) path

-- the tests hold wherever the condition does
pub record LeadsBy (terms : List Term) (c : TermId) (path : List Test) : Type 0 where
  pub tests : AreTests terms path
  pub hold : (v : ℕ → ℕ → ℕ) → bit_at v terms c ≡ true → HoldAll v terms path

-- a test of the first path, whose bit has the other value in the other path
pub record Separates (path other : List Test) (t : Test) : Type 0 where
  pub at : ℕ
  pub here : slice_get path at ≡ Some t
  pub there : slice_get other at ≡ Some (record { bit = t.bit; holds = not t.holds })

-- ---- a run so far

-- an assignment of the variables, the tape that the words are under it, and how many blocks are given
pub record Scene : Type 0 where
  pub v : ℕ → ℕ → ℕ
  pub tape : List ℕ
  pub given : ℕ

abbrev pub sight : Scene → Reading
sight g = reading g.given g.v

abbrev pub Sees : Scene → List Term → List TermId → Type 0
Sees g terms tape = words_at g.v terms tape ≡ g.tape

pub record IsTally (terms : List Term) (t : Tally) : Type 0 where
  pub read : IsTerm terms 64 t.read
  pub fits : IsTerm terms 1 t.fits

-- how many words were read, and whether the choices are the tape's words
pub record Counts (g : Scene) (terms : List Term) (t : Tally) (taken : List ℕ) : Type 0 where
  pub read : term_at g.v terms t.read ≡ length taken
  pub fits : bit_at g.v terms t.fits ≡ fits_from g.tape 0 taken

-- what is known of the given blocks
abbrev pub frames_in : RunMemory → List SymFrame
frames_in m = map frame_of (take m.given m.blocks)

-- numbered from this number on
abbrev pub AreNumberedFrom : ℕ → List SymFrame → Type 0
AreNumberedFrom first [] = Unit {0}
AreNumberedFrom first (f ∷ fs) = (f.number ≡ first) × AreNumberedFrom (first + 1) fs

-- the given blocks, and after them those of allocas, whose numbers are above each number of 3 bits
pub record IsRunMemory (terms : List Term) (m : RunMemory) : Type 0 where
  pub given : AreGivenBlocks (frames_in m) terms (take m.given m.blocks)
  pub count : m.given ≤ length m.blocks
  pub numbered : AreNumberedFrom 1 (frames_in m)
  pub are : AreSymBlocks terms (drop m.given m.blocks)
  pub own : Each (λ (b : SymBlock). first_local m.given ≤ b.number) (drop m.given m.blocks)

pub record IsState (terms : List Term) (s : RunState) : Type 0 where
  pub alive : IsTerm terms 1 s.alive
  pub path : LeadsBy terms s.alive s.path
  pub registers : AreSymValues terms s.registers
  pub memory : IsRunMemory terms s.memory
  pub tally : IsTally terms s.tally

-- how many names it has, and what is known of its given blocks
pub record StateShape : Type 0 where
  pub names : ℕ
  pub frames : List SymFrame

abbrev pub shape_of : RunState → StateShape
shape_of s = record { names = length s.registers; frames = frames_in s.memory }

-- the block that a run is in, by its label, and how many backward jumps it has taken
pub record Visit : Type 0 where
  pub label : ℕ
  pub turn : ℕ

abbrev pub visit_of : Machine → Visit
visit_of m = record { label = m.block; turn = m.turn }

-- the state of the run there
pub record MatchesState (g : Scene) (terms : List Term) (at : Visit) (s : RunState) (m : Machine) : Type 0 where
  pub registers : values_at (sight g) terms s.registers ≡ m.registers
  pub given : s.memory.given ≡ g.given
  pub memory : memory_at (sight g) terms s.memory.blocks ≡ m.memory
  pub tally : Counts g terms s.tally m.taken
  pub words_bound : length m.taken ≤ s.words_bound
  pub visit : visit_of m ≡ at

-- ---- the instructions of a block

-- a run isn't in the block; or its behaviour became undefined there, at this machine; or it goes on with this one
pub data Course : Type 0 where
  Idle : Course
  Dead : Machine → Course
  Live : Machine → Course

abbrev pub advanced : Machine → Option Machine → Course
advanced m None = Dead m
advanced m (Some n) = Live n

abbrev pub stepped : Inst → List ℕ → Course → Course
stepped inst tape Idle = Idle
stepped inst tape (Dead m) = Dead m
stepped inst tape (Live m) = advanced m (act inst tape m)

unfoldable pub steps : List Inst → List ℕ → Course → Course
steps [] tape c = c
steps (inst ∷ insts) tape c = steps insts tape (stepped inst tape c)

-- the state of the run along that course
abbrev pub MatchesCourse : Scene → List Term → Visit → RunState → Course → Type 0
MatchesCourse g terms at s Idle = bit_at g.v terms s.alive ≡ false
MatchesCourse g terms at s (Dead m) = (bit_at g.v terms s.alive ≡ false) × Counts g terms s.tally m.taken
MatchesCourse g terms at s (Live m) = (bit_at g.v terms s.alive ≡ true) × MatchesState g terms at s m

-- the state after has the same shape, and where `on` holds it matches the course after the step, whatever course the state before matches
pub record Steps (on : Scene → Visit → Type 0) (old new : List Term) (before after : RunState) (to : List ℕ → Course → Course) : Type 0 where
  pub state : IsState new after
  pub shape : shape_of after ≡ shape_of before
  pub matches : (g : Scene) (at : Visit) (c : Course) → on g at → MatchesCourse g old at before c → MatchesCourse g new at after (to g.tape c)

-- in every scene and at every visit
abbrev pub Always : Scene → Visit → Type 0
Always g at = Unit {0}
