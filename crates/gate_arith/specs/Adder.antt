-- What adders make, bit by bit and whole.
use Rattle.std.specs.Prelude.{ℕ, ◌≡◌, ◌<◌, ◌+◌, ◌-◌, ◌*◌, ◌^◌, Bool, List, length}
use Rattle.bv_terms.specs.Tree.{digit}
use Rattle.gates.specs.declared.circuit.GateId.{GateId}
use Rattle.gates.specs.declared.circuit.Gate.{Gate}
use Rattle.gates.specs.Values.{gate_at}
use Rattle.gate_arith.specs.Numbers.{AreGates, number_at}

-- a bit and a carry, which make the sum of three bits
pub record IsFullSum (old new : List Gate) (a b c sum carried : GateId) : Type 0 where
  pub within : sum.index < length new
  pub out : carried.index < length new
  pub says : (inputs : ℕ → Bool) → digit (gate_at inputs new sum) + 2 * digit (gate_at inputs new carried)
      ≡ digit (gate_at inputs old a) + digit (gate_at inputs old b) + digit (gate_at inputs old c)

-- bits and a carry, which make the sum of the first number and the negation of the second
pub record IsDifference (old new : List Gate) (a b digits : List GateId) (carried : GateId) : Type 0 where
  pub within : AreGates new digits
  pub long : length digits ≡ length a
  pub out : carried.index < length new
  pub says : (inputs : ℕ → Bool) → number_at inputs new digits + digit (gate_at inputs new carried) * 2 ^ length a
      ≡ number_at inputs old a + (2 ^ length a - number_at inputs old b)
