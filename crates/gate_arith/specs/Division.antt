-- One step of a division, and the steps so far.
use Rattle.std.specs.Prelude.{ℕ, ◌≡◌, ◌<◌, ◌+◌, ◌-◌, ◌*◌, ◌%◌, ◌^◌, Bool, cond, nat_le, List, length}
use Rattle.bv_terms.specs.Tree.{digit}
use Rattle.gates.specs.declared.circuit.GateId.{GateId}
use Rattle.gates.specs.declared.circuit.Gate.{Gate}
use Rattle.gates.specs.Values.{gate_at}
use Rattle.gate_arith.specs.Numbers.{AreGates, number_at}

-- the partial remainder, with the next bit after it
abbrev pub brought_down : (ℕ → Bool) → List Gate → List GateId → GateId → ℕ
brought_down inputs gates left next = number_at inputs gates left * 2 + digit (gate_at inputs gates next)

-- the bit says whether the divisor is at most this number, from which it is then subtracted
pub record IsStep (old new : List Gate) (left : List GateId) (next : GateId) (divisor : List GateId) (one : GateId) (further : List GateId) : Type 0 where
  pub inside : one.index < length new
  pub within : AreGates new further
  pub long : length further ≡ length left
  pub goes : (inputs : ℕ → Bool) → gate_at inputs new one ≡ nat_le (number_at inputs old divisor) (brought_down inputs old left next)
  pub says : (inputs : ℕ → Bool) → number_at inputs new further
      ≡ cond (gate_at inputs new one) (brought_down inputs old left next - number_at inputs old divisor) (brought_down inputs old left next) % 2 ^ length left
