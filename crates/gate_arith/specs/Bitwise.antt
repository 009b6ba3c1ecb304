-- Bitwise operations.
use Rattle.std.specs.Prelude.{ℕ, ◌≡◌, ◌<◌, Bool, ◌&&◌, ◌||◌, cond, List, [], ◌∷◌, length, map}
use Rattle.gates.specs.declared.circuit.GateId.{GateId}
use Rattle.gates.specs.declared.circuit.Gate.{Gate}
use Rattle.gates.specs.Values.{exclusive, gate_at}
use Rattle.gate_arith.specs.declared.bitwise.BitOp.{BitOp}
use Rattle.gate_arith.specs.declared.bitwise.BitOp.TheVariants.{And, Or, Xor, Choose}
use Rattle.gate_arith.specs.Numbers.{AreGates}

-- the bit that an operation makes of two
abbrev pub bit_by : (ℕ → Bool) → List Gate → BitOp → Bool → Bool → Bool
bit_by inputs gates And x y = x && y
bit_by inputs gates Or x y = x || y
bit_by inputs gates Xor x y = exclusive x y
bit_by inputs gates (Choose c) x y = cond (gate_at inputs gates c) x y

-- what an operation names is a gate of the circuit
abbrev pub IsOp : List Gate → BitOp → Type 0
IsOp gates And = Unit {0}
IsOp gates Or = Unit {0}
IsOp gates Xor = Unit {0}
IsOp gates (Choose c) = c.index < length gates

-- bit by bit
abbrev pub zip_by : (Bool → Bool → Bool) → List Bool → List Bool → List Bool
zip_by f [] ys = []
zip_by f (x ∷ xs) [] = []
zip_by f (x ∷ xs) (y ∷ ys) = f x y ∷ zip_by f xs ys

-- the bits that an operation makes of two lists, bit by bit
pub record IsZip (old new : List Gate) (op : BitOp) (a b digits : List GateId) : Type 0 where
  pub within : AreGates new digits
  pub long : length digits ≡ length a
  pub says : (inputs : ℕ → Bool) → map (gate_at inputs new) digits
      ≡ zip_by (bit_by inputs old op) (map (gate_at inputs old) a) (map (gate_at inputs old) b)
