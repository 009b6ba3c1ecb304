-- The number that a list of gates writes, most significant bit first.
use Rattle.std.specs.Prelude.{ℕ, ◌≡◌, ◌<◌, ◌≤◌, ◌+◌, ◌*◌, ◌^◌, ◌++◌, Bool, false, All, List, [], ◌∷◌, length, map}
use Rattle.bv_terms.specs.Tree.{digit}
use Rattle.gates.specs.declared.circuit.GateId.{GateId}
use Rattle.gates.specs.declared.circuit.Gate.{Gate}
use Rattle.gates.specs.Numbering.{AreApart}
use Rattle.gates.specs.Values.{gate_at, inputs_of}

-- the number that bits write, most significant bit first
abbrev pub number_of : List Bool → ℕ
number_of [] = 0
number_of (b ∷ bs) = digit b * 2 ^ length bs + number_of bs

-- the number that gates write under values of the inputs
abbrev pub number_at : (ℕ → Bool) → List Gate → List GateId → ℕ
number_at inputs gates digits = number_of (map (gate_at inputs gates) digits)

-- gates of the circuit
abbrev pub AreGates : List Gate → List GateId → Type 0
AreGates gates digits = All (λ a. a.index < length gates) digits

-- `width` gates of the circuit, which write this number
pub record Writes (new : List Gate) (digits : List GateId) (width : ℕ) (value : (ℕ → Bool) → ℕ) : Type 0 where
  pub within : AreGates new digits
  pub long : length digits ≡ width
  pub says : (inputs : ℕ → Bool) → number_at inputs new digits ≡ value inputs

-- bits and a carry, which make the sum of two numbers and a carry
pub record IsSum (old new : List Gate) (a b : List GateId) (carry : GateId) (digits : List GateId) (carried : GateId) : Type 0 where
  pub within : AreGates new digits
  pub long : length digits ≡ length a
  pub out : carried.index < length new
  pub says : (inputs : ℕ → Bool) → number_at inputs new digits + digit (gate_at inputs new carried) * 2 ^ length a
      ≡ number_at inputs old a + number_at inputs old b + digit (gate_at inputs old carry)

-- `width` inputs that the circuit did not have
pub record AreFresh (old new : List Gate) (width : ℕ) (digits : List GateId) : Type 0 where
  pub long : length digits ≡ width
  pub plain : All (λ a. a.negated ≡ false) digits
  pub fresh : All (λ a. length old ≤ a.index) digits
  pub within : AreGates new digits
  pub apart : AreApart digits
  pub added : inputs_of new ≡ inputs_of old ++ map (λ a. a.index) digits
  pub says : (inputs : ℕ → Bool) → map (gate_at inputs new) digits ≡ map (λ a. inputs a.index) digits
