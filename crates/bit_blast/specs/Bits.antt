-- Which gates are the bits of a term.
use Rattle.std.specs.Prelude.{ℕ, ◌≡◌, Bool, All, List, length}
use Rattle.bv_terms.specs.declared.term.Term.{Term}
use Rattle.bv_terms.specs.Tree.{Tree, value_of, width_of}
use Rattle.bv_terms.specs.Trees.{tree_at}
use Rattle.gates.specs.declared.circuit.GateId.{GateId}
use Rattle.gates.specs.declared.circuit.Gate.{Gate}
use Rattle.gate_arith.specs.Numbers.{AreGates, number_at}
use Rattle.bv_terms.specs.declared.variable.Variable.{Variable}
use Rattle.bit_blast.specs.Table.{Agrees}
use Rattle.bit_blast.specs.Written.{digits_at, operands}

-- gates of the circuit, as many as the width of the tree, which write its value, most significant bit first, wherever the inputs agree with the assignment
pub record AreBits (gates : List Gate) (table : List (Variable × List GateId)) (tree : Tree) (digits : List GateId) : Type 0 where
  pub within : AreGates gates digits
  pub long : length digits ≡ width_of tree
  pub says : (inputs : ℕ → Bool) (v : ℕ → ℕ → ℕ) → Agrees table inputs v → number_at inputs gates digits ≡ value_of v tree

-- the answers for the terms that a term names are their bits
abbrev pub AreStanding : List Gate → List (Variable × List GateId) → List Tree → List (List GateId) → Term → Type 0
AreStanding gates table trees done term = All (λ a. AreBits gates table (tree_at trees a) (digits_at done a)) (operands term)
