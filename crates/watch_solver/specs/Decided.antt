-- What a decision does to the trail.
use Rattle.std.specs.Prelude.{ℕ, ◌≡◌, ◌++◌, Bool, true, false, List, [], ◌∷◌, Some, None}
use Rattle.clause_search.specs.declared.trail.Entry.{Entry}
use Rattle.clause_search.specs.Assigning.{IsNextVariable}

-- the least unassigned variable is decided as 0, or there is none
abbrev pub IsDecided : ℕ → List Entry → List Entry → Bool → Type 0
IsDecided variables old new true =
    (n : ℕ) × IsNextVariable variables old (Some n) × (new ≡ old ++ record { literal = record { variable = n; positive = false }; reason = 0 } ∷ [])
IsDecided variables old new false = IsNextVariable variables old None × (new ≡ old)
