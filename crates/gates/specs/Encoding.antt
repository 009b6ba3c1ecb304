-- Which clauses say what a circuit does: the encoding of G. Tseitin, "On the complexity of
-- derivation in propositional calculus" (1968). Each assignment of the inputs extends to exactly one
-- model.
use Rattle.std.specs.Prelude.{ℕ, ◌≡◌, ◌<◌, ◌≤◌, ◌⊎◌, ◌↔◌, Bool, All, Contains, List, [], ◌∷◌, ◌++◌, length, take, slice_index}
use Rattle.clause_lits.specs.declared.lit.Lit.{Lit}
use Rattle.clause_lits.specs.declared.cnf.Cnf.{Cnf}
use Rattle.clause_lits.specs.Meaning.{IsModel, lit_true}
use Rattle.clause_lits.specs.Meaning as meaning
use Rattle.gates.specs.declared.circuit.GateId.{GateId}
use Rattle.gates.specs.declared.circuit.Gate.{Gate}
use Rattle.gates.specs.Cone.{IsNeeded}
use Rattle.gates.specs.Numbering.{AreNamed, HasNumber, IsNamed}
use Rattle.gates.specs.Values.{IsInput, gate_at, inputs_of}

-- inputs of the circuit
abbrev pub AreInputs : List Gate → List GateId → Type 0
AreInputs gates order = All (λ a. IsInput gates a) order

-- values of the variables extend those of the inputs, as far as these have variables
abbrev pub Extends : List Gate → List ℕ → (ℕ → Bool) → List Bool → Type 0
Extends gates number inputs places = (i : ℕ) → Contains (inputs_of gates) i → HasNumber number i
    → meaning.values_of places (slice_index number i) ≡ inputs i

-- Each assignment of the inputs extends to exactly one model of the clauses before the last one.
-- The last clause is one literal, which in each such model has the value of the gate `out`. The
-- inputs of `order` and the gates that `out` needs have a variable each, and no others have one.
pub record Encodes (gates : List Gate) (out : GateId) (order : List GateId)
    (cnf : Cnf) : Type 0 where
  -- the variable of each gate, none of them twice; 0 if the gate has none
  pub number : List ℕ
  pub numbered : length number ≡ length gates
  pub ranged : (i : ℕ) → slice_index number i ≤ cnf.variables
  pub apart : (i j : ℕ) → HasNumber number i → slice_index number i ≡ slice_index number j → i ≡ j
  -- each variable is that of a gate
  pub used : (x : ℕ) → 0 < x → x ≤ cnf.variables → (i : ℕ) × (slice_index number i ≡ x)
  -- of a gate that is named in the order or that the output needs, and each of these has one
  pub cone : (i : ℕ) → HasNumber number i ↔ (IsNamed order i ⊎ IsNeeded gates out.index i)
  -- the inputs of `order` come first
  pub front : cnf.front ≡ length order
  pub ordered : AreNamed number order
  -- the last clause is one literal
  pub body : List (List Lit)
  pub literal : Lit
  pub clauses : cnf.clauses ≡ body ++ (literal ∷ []) ∷ []
  -- over each assignment of the inputs there is a model
  pub model : (inputs : ℕ → Bool)
      → (places : List Bool) × IsModel cnf.variables body places
      × Extends gates number inputs places
  -- and no other
  pub one : (inputs : ℕ → Bool) (a b : List Bool)
      → IsModel cnf.variables body a → IsModel cnf.variables body b
      → Extends gates number inputs a → Extends gates number inputs b → a ≡ b
  -- in each model the literal is the output's value
  pub output : (inputs : ℕ → Bool) (places : List Bool)
      → IsModel cnf.variables body places → Extends gates number inputs places
      → lit_true (meaning.values_of places) literal ≡ gate_at inputs gates out

-- each input of the circuit is named in the order
abbrev pub AreAllNamed : List Gate → List GateId → Type 0
AreAllNamed gates order = (i : ℕ) → Contains (inputs_of gates) i → IsNamed order i

-- where each input is named, each list of values of the ordered variables extends to exactly one
-- model of the clauses before the last
abbrev pub HasOneModelAFront : List Gate → List GateId → Cnf → Type 0
HasOneModelAFront gates order cnf = AreAllNamed gates order
    → (body : List (List Lit)) (last : List Lit) → cnf.clauses ≡ body ++ last ∷ []
    → (values : List Bool) → length values ≡ cnf.front
    → (places : List Bool) × IsModel cnf.variables body places × (take cnf.front places ≡ values)
    × ((other : List Bool) → IsModel cnf.variables body other → take cnf.front other ≡ values
    → other ≡ places)
