-- What the clauses of the gates say of their variables.
use Rattle.std.specs.Prelude.{ℕ, ◌≡◌, ◌<◌, ◌≤◌, Bool, cond, false, ◌&&◌, All, List, slice_index, slice_get, Some}
use Rattle.clause_lits.specs.declared.lit.Lit.{Lit}
use Rattle.gates.specs.declared.circuit.Gate.{Gate}
use Rattle.gates.specs.declared.circuit.Gate.TheVariants.{Zero, Input, And, Xor, Choose}
use Rattle.gates.specs.Numbering.{HasNumber}
use Rattle.gates.specs.Values.{exclusive}

-- the value of a gate over the values of all gates
abbrev pub gate_fact : (ℕ → Bool) → Gate → Bool
gate_fact w Zero = false
gate_fact w (Input place) = w place
gate_fact w (And a b) = exclusive a.negated (w a.index) && exclusive b.negated (w b.index)
gate_fact w (Xor a b) = exclusive (w a) (w b)
gate_fact w (Choose test first second) =
    cond (w test) (w first) (exclusive second.negated (w second.index))

-- the value of each gate's variable
abbrev pub value_by : (ℕ → Bool) → List ℕ → ℕ → Bool
value_by v number i = v (slice_index number i)

-- the variable of the gate at an index has the value of the gate
abbrev pub IsFact : (ℕ → Bool) → List ℕ → ℕ → Gate → Type 0
IsFact v number place gate = value_by v number place ≡ gate_fact (value_by v number) gate

-- the first variables, before `end`, have the values of their gates
abbrev pub AreFacts : (ℕ → Bool) → List ℕ → List Gate → List ℕ → ℕ → Type 0
AreFacts v number gates gate_of end = (j : ℕ) (g : Gate) → j < end
    → slice_get gates (slice_index gate_of j) ≡ Some g → IsFact v number (slice_index gate_of j) g

-- different gates have different variables
abbrev pub AreDistinct : List ℕ → Type 0
AreDistinct number = (i j : ℕ) → HasNumber number i
    → slice_index number i ≡ slice_index number j → i ≡ j

-- the clause uses no variable beyond the greatest of three
abbrev pub IsOver : List Lit → ℕ → ℕ → ℕ → Type 0
IsOver c x y z = (n : ℕ) → x ≤ n → y ≤ n → z ≤ n → All (λ l. (0 < l.variable) × (l.variable ≤ n)) c
