-- Which inputs of a circuit are the bits of which variable.
use Rattle.std.specs.Prelude.{ℕ, ◌≡◌, ◌%◌, ◌^◌, ◌++◌, ◌⊎◌, Bool, cond, false, All, List, [], ◌∷◌, length, map, slice_get, Option, Some, None}
use Rattle.gates.specs.declared.circuit.GateId.{GateId}
use Rattle.gates.specs.declared.circuit.Gate.{Gate}
use Rattle.gates.specs.Numbering.{AreApart}
use Rattle.gates.specs.Values.{gate_at, inputs_of, Grows}
use Rattle.gate_arith.specs.Numbers.{AreGates, number_of}
use Rattle.bv_terms.specs.declared.variable.Variable.{Variable}
use Rattle.bv_terms.specs.Variables.{is_variable}

-- a circuit, and for each variable the gates of its bits, in the order in which the variables were added
pub record Blasted : Type 0 where
  pub gates : List Gate
  pub table : List (Variable × List GateId)

-- the bits of a variable
abbrev pub digits_of : List (Variable × List GateId) → Variable → Option (List GateId)
digits_of [] x = None
digits_of (e ∷ es) x = cond (is_variable x e.0) (Some e.1) (digits_of es x)

-- the bits of all variables
abbrev pub all_digits : List (Variable × List GateId) → List GateId
all_digits [] = []
all_digits (e ∷ es) = e.1 ++ all_digits es

-- the bits of the variable at an index come after others
abbrev pub Appends : List (Variable × List GateId) → ℕ → List GateId → List GateId → Type 0
Appends table place old new = (e : Variable × List GateId) → slice_get table place ≡ Some e → new ≡ old ++ e.1

-- the number that bits write, each of them an input
abbrev pub number_by : (ℕ → Bool) → List GateId → ℕ
number_by inputs digits = number_of (map (λ a. inputs a.index) digits)

-- the inputs are the bits of what each variable is assigned, cut to its width
abbrev pub Agrees : List (Variable × List GateId) → (ℕ → Bool) → (ℕ → ℕ → ℕ) → Type 0
Agrees table inputs v = (x : Variable) (digits : List GateId) → digits_of table x ≡ Some digits → number_by inputs digits ≡ v x.number x.width % 2 ^ x.width

-- the bits of a variable: gates of the circuit, as many as the width, each with the value of the input at its index
pub record AreDigits (gates : List Gate) (width : ℕ) (digits : List GateId) : Type 0 where
  pub long : length digits ≡ width
  pub within : AreGates gates digits
  pub says : (inputs : ℕ → Bool) → map (gate_at inputs gates) digits ≡ map (λ a. inputs a.index) digits

-- each input of the circuit is one bit of one variable
pub record IsTable (gates : List Gate) (table : List (Variable × List GateId)) : Type 0 where
  pub digits : All (λ e. AreDigits gates e.0.width e.1) table
  pub inputs : inputs_of gates ≡ map (λ a. a.index) (all_digits table)
  pub plain : All (λ a. a.negated ≡ false) (all_digits table)
  pub within : AreGates gates (all_digits table)
  pub apart : AreApart (all_digits table)

-- for each assignment of the variables some values of the inputs agree with it
abbrev pub HasInputs : List (Variable × List GateId) → Type 0
HasInputs table = (v : ℕ → ℕ → ℕ) → (inputs : ℕ → Bool) × Agrees table inputs v

-- the variable has bits: those that it had, or new ones, which come last
abbrev pub Adds : List (Variable × List GateId) → List (Variable × List GateId) → Variable → Type 0
Adds old new x = ((digits : List GateId) × (digits_of old x ≡ Some digits) × (new ≡ old))
    ⊎ ((digits : List GateId) × (digits_of old x ≡ None) × (new ≡ old ++ (x, digits) ∷ []))

-- the gates stay with their values, and the variables with their bits
pub record Follows (old new : Blasted) : Type 0 where
  pub grows : Grows old.gates new.gates
  pub table : (x : Variable) (digits : List GateId) → digits_of old.table x ≡ Some digits → digits_of new.table x ≡ Some digits
