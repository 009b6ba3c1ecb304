-- The search for the sets: those so far, and the blocks whose sets must still be passed on.
use Rattle.std.specs.Prelude.{ℕ, ◌+◌, ◌≡◌, ◌<◌, ◌≤◌, ◌⊎◌, ◌↔◌, Bool, true, false, IsTrue, List, [], ◌∷◌, length, slice_index_or, count_by, replicate}
use Rattle.std.specs.List.{Contains, sum_by}
use Rattle.ir_tree.specs.Paths.{Assigns, IsSuccessor, IsUnassignedBefore}
use Rattle.definite_assignment.specs.Sets.{has, has_name, places_for}
use Rattle.definite_assignment.specs.declared.work.Work.{Work}

-- the sets so far, and for each block whether it waits
pub record State : Type 0 where
  pub sets : List (List Bool)
  pub marks : List Bool

abbrev pub state_of : Work → State
state_of work = record { sets = work.sets; marks = work.is_waiting.items }

abbrev pub set_of : State → ℕ → List Bool
set_of state block = slice_index_or state.sets block []

abbrev pub is_waiting : State → ℕ → Bool
is_waiting state block = slice_index_or state.marks block false

-- how many are true
abbrev pub count : List Bool → ℕ
count set = count_by (λ b. b) set

-- what is still to be done: the names that may go, and the blocks that wait
abbrev pub rest_of : State → ℕ
rest_of state = sum_by count state.sets + count state.marks

-- the sets at the start: empty at the entry, every name elsewhere
abbrev pub first_sets : ℕ → ℕ → List (List Bool)
first_sets others names = replicate (places_for names) false ∷ replicate others (replicate (places_for names) true)

-- the names that are assigned once the block is left: those of its set, and those that it assigns
pub record IsLeaving (set : List Bool) (assigned : List ℕ) (leaving : List Bool) : Type 0 where
  pub places : length leaving ≡ length set
  pub names : (name : ℕ) → IsTrue (has_name leaving name) ↔ (IsTrue (has_name set name) ⊎ Contains assigned name)

-- the sets of some blocks are cut down to the names that leave, and a block whose set became smaller waits
pub record IsSpread (old new : State) (nexts : List ℕ) (leaving : List Bool) : Type 0 where
  pub many : length new.sets ≡ length old.sets
  pub marks : length new.marks ≡ length old.marks
  pub places : (block : ℕ) → length (set_of new block) ≡ length (set_of old block)
  pub smaller : (block name : ℕ) → IsTrue (has new.sets block name) → IsTrue (has old.sets block name)
  pub cut : (block name : ℕ) → Contains nexts block → IsTrue (has new.sets block name) → IsTrue (has_name leaving name)
  pub kept : (block name : ℕ) → IsTrue (has old.sets block name) → (Contains nexts block → IsTrue (has_name leaving name)) → IsTrue (has new.sets block name)
  pub same : (block : ℕ) → is_waiting new block ≡ false → set_of new block ≡ set_of old block
  pub waits : (block : ℕ) → is_waiting new block ≡ false → is_waiting old block ≡ false
  pub rest : rest_of new ≤ rest_of old

-- What holds all through the search: where a set lacks a name, some path doesn't assign it, and a successor of
-- a block that doesn't wait has no name that the block neither has nor assigns.
pub record IsSearch (successors assigns : List (List ℕ)) (places : ℕ) (state : State) : Type 0 where
  pub many : length state.sets ≡ length successors
  pub marks : length state.marks ≡ length successors
  pub wide : (block : ℕ) → block < length successors → length (set_of state block) ≡ places
  pub entry : (name : ℕ) → has state.sets 0 name ≡ false
  pub missed : (block name : ℕ) → block < length successors → name < places → has state.sets block name ≡ false → IsUnassignedBefore successors assigns block name
  pub passed : (block next name : ℕ) → is_waiting state block ≡ false → IsSuccessor successors block next → IsTrue (has state.sets next name) → IsTrue (has state.sets block name) ⊎ Assigns assigns block name
