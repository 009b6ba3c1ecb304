-- The cone of influence of an output: which gates it needs.
use Rattle.std.specs.Prelude.{ℕ, ◌≡◌, ◌≤◌, Bool, true, false, All, Contains, List, [], ◌∷◌, length, slice_get, slice_index_or, slice_set, Some}
use Rattle.gates.specs.declared.circuit.Gate.{Gate}
use Rattle.gates.specs.declared.circuit.Gate.TheVariants.{Zero, Input, And, Xor, Choose}

-- the indices of the operands of a gate
abbrev pub operands : Gate → List ℕ
operands Zero = []
operands (Input place) = []
operands (And a b) = a.index ∷ b.index ∷ []
operands (Xor a b) = a ∷ b ∷ []
operands (Choose test first second) = test ∷ first ∷ second.index ∷ []

-- the gates that the gate at index `out` needs: itself, and the operands of each gate that it needs
pub data IsNeeded (gates : List Gate) (out : ℕ) : ℕ → Type 0 where
  output : IsNeeded gates out out
  operand : {i j : ℕ} {g : Gate} → IsNeeded gates out i → slice_get gates i ≡ Some g
      → Contains (operands g) j → IsNeeded gates out j

abbrev pub IsMarked : List Bool → ℕ → Type 0
IsMarked needed i = slice_index_or needed i false ≡ true

-- these gates are marked too
abbrev pub marked : List Bool → List ℕ → List Bool
marked needed [] = needed
marked needed (j ∷ js) = marked (slice_set needed j true) js

-- the output is marked, and from index `from` on the operands of each marked gate; only needed gates are
pub record IsCone (gates : List Gate) (out from : ℕ) (needed : List Bool) : Type 0 where
  pub long : length needed ≡ length gates
  pub root : IsMarked needed out
  pub closed : (i : ℕ) (g : Gate) → from ≤ i → slice_get gates i ≡ Some g → IsMarked needed i
      → All (IsMarked needed) (operands g)
  pub sound : (i : ℕ) → IsMarked needed i → IsNeeded gates out i
