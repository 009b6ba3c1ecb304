-- The values of the gates of a circuit under values of its inputs.
use Rattle.std.specs.Prelude.{ℕ, ◌≡◌, ◌≢◌, ◌<◌, ◌≤◌, ◌+◌, Bool, false, not, ◌&&◌, cond, Contains, List, [], ◌∷◌, ◌++◌, length, slice_index_or}
use Rattle.gates.specs.declared.circuit.GateId.{GateId}
use Rattle.gates.specs.declared.circuit.Gate.{Gate}
use Rattle.gates.specs.declared.circuit.Gate.TheVariants.{Zero, Input, And, Xor, Choose}

-- exactly one of the two
abbrev pub exclusive : Bool → Bool → Bool
exclusive a b = cond a (not b) b

-- the value of an earlier gate, or of its negation
abbrev pub value_at : List Bool → GateId → Bool
value_at earlier a = exclusive a.negated (slice_index_or earlier a.index false)

-- the value of a gate over those of the earlier ones; an input's is the one at its index
abbrev pub gate_value : (ℕ → Bool) → List Bool → Gate → Bool
gate_value inputs earlier Zero = false
gate_value inputs earlier (Input place) = inputs place
gate_value inputs earlier (And a b) = value_at earlier a && value_at earlier b
gate_value inputs earlier (Xor a b) =
    exclusive (slice_index_or earlier a false) (slice_index_or earlier b false)
gate_value inputs earlier (Choose test first second) =
    cond (slice_index_or earlier test false) (slice_index_or earlier first false)
    (value_at earlier second)

abbrev pub values_from : (ℕ → Bool) → List Bool → List Gate → List Bool
values_from inputs earlier [] = earlier
values_from inputs earlier (g ∷ gs) = values_from inputs (earlier ++ gate_value inputs earlier g ∷ []) gs

unfoldable pub values_of : (ℕ → Bool) → List Gate → List Bool
values_of inputs gates = values_from inputs [] gates

-- the gate is valid at index n: an input carries its index, and another names different earlier
-- ones, two of them in order
abbrev pub IsFit : ℕ → Gate → Type 0
IsFit n Zero = Unit {0}
IsFit n (Input place) = place ≡ n
IsFit n (And a b) = (a.index < b.index) × (b.index < n)
IsFit n (Xor a b) = (a < b) × (b < n)
IsFit n (Choose test first second) = (test < n) × (first < n) × (second.index < n)
    × (test ≢ first) × (test ≢ second.index) × (first ≢ second.index)

-- each gate is valid at its index, the first of them at index n
abbrev pub AreFit : ℕ → List Gate → Type 0
AreFit n [] = Unit {0}
AreFit n (g ∷ gs) = IsFit n g × AreFit (n + 1) gs

-- the indices of the inputs, in order
abbrev pub inputs_of : List Gate → List ℕ
inputs_of [] = []
inputs_of (Zero ∷ gs) = inputs_of gs
inputs_of (Input place ∷ gs) = place ∷ inputs_of gs
inputs_of (And a b ∷ gs) = inputs_of gs
inputs_of (Xor a b ∷ gs) = inputs_of gs
inputs_of (Choose test first second ∷ gs) = inputs_of gs

-- the value of a gate of a circuit
unfoldable pub gate_at : (ℕ → Bool) → List Gate → GateId → Bool
gate_at inputs gates a = value_at (values_of inputs gates) a

-- an input of the circuit itself, and not its negation
pub record IsInput (gates : List Gate) (a : GateId) : Type 0 where
  pub input : Contains (inputs_of gates) a.index
  pub plain : a.negated ≡ false

-- the gates stay, with their values, and others may come after them
pub record Grows (old new : List Gate) : Type 0 where
  pub longer : length old ≤ length new
  pub kept : (inputs : ℕ → Bool) (a : GateId) → a.index < length old → gate_at inputs new a ≡ gate_at inputs old a

-- the gates stay, with their values, and no input comes after them
pub record Keeps (old new : List Gate) : Type 0 where
  pub longer : length old ≤ length new
  pub kept : (inputs : ℕ → Bool) (a : GateId) → a.index < length old → gate_at inputs new a ≡ gate_at inputs old a
  pub inputs : inputs_of new ≡ inputs_of old

-- a gate of the circuit with this value
pub record Makes (new : List Gate) (id : GateId) (value : (ℕ → Bool) → Bool) : Type 0 where
  pub within : id.index < length new
  pub says : (inputs : ℕ → Bool) → gate_at inputs new id ≡ value inputs
