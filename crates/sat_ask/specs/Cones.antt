-- The terms that a goal is made of.
use Rattle.std.specs.Prelude.{ℕ, ◌≡◌, ◌<◌, ◌≤◌, Bool, true, false, All, List, [], ◌∷◌, length, slice_get, slice_index_or, slice_set, Some}
use Rattle.bv_terms.specs.declared.term.TermId.{TermId}
use Rattle.bv_terms.specs.declared.term.Term.{Term}
use Rattle.bv_terms.specs.Trees.{bit_at, tree_in}
use Rattle.gates.specs.declared.circuit.GateId.{GateId}
use Rattle.gates.specs.declared.circuit.Gate.{Gate}
use Rattle.gates.specs.Values.{gate_at}
use Rattle.bv_terms.specs.declared.variable.Variable.{Variable}
use Rattle.bit_blast.specs.Table.{Agrees, digits_of}
use Rattle.bit_blast.specs.Written.{operands}
use Rattle.sat_ask.specs.Questions.{Mentions}

-- these terms are marked too
abbrev pub marked : List Bool → List TermId → List Bool
marked used [] = used
marked used (a ∷ gs) = marked (slice_set used a.index true) gs

abbrev pub IsMarked : List Bool → ℕ → Type 0
IsMarked used i = slice_index_or used i false ≡ true

-- the goal is marked, and from index `from` on what a marked term names; a marked term has only variables of the goal
pub record IsCone (terms : List Term) (goal : TermId) (from : ℕ) (used : List Bool) : Type 0 where
  pub long : length used ≡ length terms
  pub root : IsMarked used goal.index
  pub closed : (i : ℕ) (t : Term) → from ≤ i → slice_get terms i ≡ Some t → IsMarked used i → All (λ a. IsMarked used a.index) (operands t)
  pub sound : (i : ℕ) → IsMarked used i → (x : Variable) → Mentions x (tree_in terms (record { index = i })) → Mentions x (tree_in terms goal)

-- each variable of the goal has bits
abbrev pub AreKnown : List (Variable × List GateId) → List Term → TermId → Type 0
AreKnown table terms goal = (x : Variable) → Mentions x (tree_in terms goal) → (digits : List GateId) × (digits_of table x ≡ Some digits)

-- the gate is 1 exactly where the goal is true, wherever the inputs agree with the assignment
pub record IsGoal (gates : List Gate) (table : List (Variable × List GateId)) (terms : List Term) (goal : TermId) (out : GateId) : Type 0 where
  pub within : out.index < length gates
  pub says : (inputs : ℕ → Bool) (v : ℕ → ℕ → ℕ) → Agrees table inputs v → gate_at inputs gates out ≡ bit_at v terms goal
