-- Variables for gates, and gates for variables.
use Rattle.std.specs.Prelude.{ℕ, ◌≡◌, ◌≢◌, ◌<◌, ◌≤◌, ◌+◌, ◌-◌, ◌⊎◌, Bool, All, List, length, slice_index, slice_get, Some}
use Rattle.gates.specs.declared.circuit.GateId.{GateId}
use Rattle.gates.specs.declared.circuit.Gate.{Gate}
use Rattle.gates.specs.Cone.{IsMarked, IsNeeded, operands}

-- the gate at an index has a variable: its number isn't 0
abbrev pub HasNumber : List ℕ → ℕ → Type 0
HasNumber number i = 0 < slice_index number i

-- the gate at an index is named in the order
abbrev pub IsNamed : List GateId → ℕ → Type 0
IsNamed order i = (j : ℕ) × (a : GateId) × (slice_get order j ≡ Some a) × (a.index ≡ i)

-- no gate is named twice
abbrev pub AreApart : List GateId → Type 0
AreApart order = (i j : ℕ) (a b : GateId) → i < j
    → slice_get order i ≡ Some a → slice_get order j ≡ Some b → a.index ≢ b.index

-- the gates that are named have the variables 1, 2 and so on
abbrev pub AreNamed : List ℕ → List GateId → Type 0
AreNamed number order = (j : ℕ) (a : GateId) → slice_get order j ≡ Some a
    → slice_index number a.index ≡ j + 1

-- each variable, from 1 on, is that of one of `count` gates
pub record IsNumbering (count : ℕ) (number gate_of : List ℕ) : Type 0 where
  pub numbered : length number ≡ count
  pub back : (i : ℕ) → HasNumber number i
      → (slice_index number i ≤ length gate_of)
      × (slice_index gate_of (slice_index number i - 1) ≡ i)
  pub forth : (j : ℕ) → j < length gate_of
      → (slice_index gate_of j < count) × (slice_index number (slice_index gate_of j) ≡ j + 1)

-- the variables are those of the gates that are named before `end`, in order
pub record AreNumbered (count : ℕ) (number gate_of : List ℕ) (order : List GateId)
    (end : ℕ) : Type 0 where
  pub numbering : IsNumbering count number gate_of
  pub long : length gate_of ≡ end
  pub gates : (j : ℕ) (a : GateId) → j < end → slice_get order j ≡ Some a
      → slice_index gate_of j ≡ a.index

-- the gates that are named have their variables, and of those before `end` the marked ones; only
-- gates that are named or marked have one
pub record IsPartNumbering (count : ℕ) (number gate_of : List ℕ) (order : List GateId)
    (needed : List Bool) (end : ℕ) : Type 0 where
  pub numbering : IsNumbering count number gate_of
  pub named : AreNamed number order
  pub room : length order ≤ length gate_of
  pub all : (i : ℕ) → i < end → IsMarked needed i → HasNumber number i
  pub only : (i : ℕ) → HasNumber number i → IsNamed order i ⊎ IsMarked needed i

-- the operands of a gate with a variable have variables
abbrev pub IsClosed : List Gate → List ℕ → Type 0
IsClosed gates number = (i : ℕ) (g : Gate) → HasNumber number i → slice_get gates i ≡ Some g
    → All (HasNumber number) (operands g)

-- the gates with a variable are those that are named, first and in order, and those that the output
-- needs
pub record IsNumberingOf (gates : List Gate) (out : ℕ) (order : List GateId)
    (number gate_of : List ℕ) : Type 0 where
  pub numbering : IsNumbering (length gates) number gate_of
  pub named : AreNamed number order
  pub room : length order ≤ length gate_of
  pub root : HasNumber number out
  pub closed : IsClosed gates number
  pub cone : (i : ℕ) → HasNumber number i → IsNamed order i ⊎ IsNeeded gates out i
