-- Which variables a trail assigns.
use Rattle.std.specs.Prelude.{ℕ, ◌≡◌, ◌<◌, ◌≤◌, ◌+◌, Bool, true, false, ◌↔◌, IsTrue, List, Option, Some, None, slice_get, slice_index_or, length}
use Rattle.clause_search.specs.declared.trail.Entry.{Entry}
use Rattle.clause_search.specs.Trail.{Stands, IsAssigned}
use Rattle.clause_search.specs.Learning.{IsDecisionAt, IsLastDecision}

-- the variables up to n are assigned
abbrev pub AreAssigned : List Entry → ℕ → Type 0
AreAssigned trail n = (variable : ℕ) → 0 < variable → variable < n + 1 → IsAssigned trail variable

abbrev pub IsNextVariable : ℕ → List Entry → Option ℕ → Type 0
IsNextVariable variables trail None = AreAssigned trail variables
IsNextVariable variables trail (Some n) =
    (0 < n) × (n ≤ variables) × (IsAssigned trail n → ⊥) × ((variable : ℕ) → 0 < variable → variable < n → IsAssigned trail variable)

-- the entries from a position up to another are implied
abbrev pub AreImplied : List Entry → ℕ → ℕ → Type 0
AreImplied trail from to = (i : ℕ) (e : Entry) → from ≤ i → i < to → slice_get trail i ≡ Some e → e.reason ≡ 0 → ⊥

abbrev pub IsLastPlace : List Entry → Option ℕ → Type 0
IsLastPlace trail None = AreImplied trail 0 (length trail)
IsLastPlace trail (Some place) = IsLastDecision trail place

-- the value at index i says whether the positive literal of variable i + 1 is true
pub record TellsAll (variables : ℕ) (trail : List Entry) (all : List Bool) : Type 0 where
  pub len : length all ≡ variables
  pub each : (i : ℕ) → i < variables → IsTrue (slice_index_or all i false) ↔ Stands trail (record { variable = i + 1; positive = true })

-- the last decision among the entries before a position
abbrev pub IsLastBelow : List Entry → Option ℕ → ℕ → Type 0
IsLastBelow trail None to = AreImplied trail 0 to
IsLastBelow trail (Some place) to = (place < to) × IsDecisionAt trail place × AreImplied trail (place + 1) to
