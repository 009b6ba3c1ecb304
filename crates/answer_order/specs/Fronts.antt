-- Numbers of known widths, as bits one after the other, and which of them are least.
use Rattle.std.specs.Prelude.{ℕ, ◌≡◌, ◌+◌, ◌<◌, ◌≤◌, ◌^◌, Bool, true, false, List, [], ◌∷◌, take, drop}
use Rattle.gate_arith.specs.Numbers as digits
use Rattle.points.specs.Code.{number_of}

-- the most significant bit of each comes first
abbrev pub numbers_of : List ℕ → List Bool → List ℕ
numbers_of [] bs = []
numbers_of (w ∷ ws) bs = digits.number_of (take w bs) ∷ numbers_of ws (drop w bs)

-- how many bits numbers of these widths have
abbrev pub total : List ℕ → ℕ
total [] = 0
total (w ∷ ws) = w + total ws

-- each at most 64
abbrev pub AreWidths : List ℕ → Type 0
AreWidths [] = Unit {0}
AreWidths (w ∷ ws) = (w ≤ 64) × AreWidths ws

-- as many numbers as widths, each below 2 to the power of its width
abbrev pub Fits : List ℕ → List ℕ → Type 0
Fits [] [] = Unit {0}
Fits (w ∷ ws) (n ∷ ns) = (n < 2 ^ w) × Fits ws ns
Fits [] (n ∷ ns) = ⊥
Fits (w ∷ ws) [] = ⊥

-- numbers that pass, and none before them in the order of codes do
pub record IsLeast (test : List ℕ → Bool) (widths front : List ℕ) : Type 0 where
  pub fits : Fits widths front
  pub passes : test front ≡ true
  pub least : (other : List ℕ) → Fits widths other → number_of other < number_of front → test other ≡ false

-- no numbers pass
abbrev pub NonePass : (List ℕ → Bool) → List ℕ → Type 0
NonePass test widths = (front : List ℕ) → Fits widths front → test front ≡ false
