-- Where a trail finds its literals and decisions.
use Rattle.std.specs.Prelude.{ℕ, ◌≡◌, ◌+◌, List, Option, Some, None, slice_get, map}
use Rattle.clause_search.specs.declared.trail.Entry.{Entry}
use Rattle.clause_search.specs.declared.trail.Mark.{Mark}
use Rattle.clause_search.specs.Trail.{IsUnassigned}
use Rattle.clause_search.specs.Assigning.{IsLastBelow}

abbrev pub entries_of : List Mark → List Entry
entries_of marks = map (λ m. m.entry) marks

-- at each assigned variable, its position; what the others have doesn't matter
abbrev pub ArePlaced : List Entry → List ℕ → Type 0
ArePlaced trail places = (i : ℕ) (e : Entry) → slice_get trail i ≡ Some e → slice_get places e.literal.variable ≡ Some i

-- each mark has the last decision up to it
abbrev pub AreLast : List Mark → Type 0
AreLast marks = (i : ℕ) (m : Mark) → slice_get marks i ≡ Some m → IsLastBelow (entries_of marks) m.last (i + 1)

-- the one position at which the variable is assigned
abbrev pub IsPlaceOf : List Entry → ℕ → Option ℕ → Type 0
IsPlaceOf trail variable None = IsUnassigned trail variable
IsPlaceOf trail variable (Some place) =
    ((e : Entry) × (slice_get trail place ≡ Some e) × (e.literal.variable ≡ variable))
    × ((i : ℕ) (e : Entry) → slice_get trail i ≡ Some e → e.literal.variable ≡ variable → i ≡ place)
