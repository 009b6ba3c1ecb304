-- Which place the mark of a variable has.
use Rattle.std.specs.Prelude.{ℕ, ◌+◌, cond, nat_eq, List, [], ◌∷◌, Option, Some, None}
use Rattle.clause_log.specs.declared.places.Places.{Places}
use Rattle.clause_log.specs.declared.places.Places.TheVariants.{Direct, Listed}

abbrev pub next_index : Option ℕ → Option ℕ
next_index None = None
next_index (Some i) = Some (i + 1)

-- the index at which a number first occurs
abbrev pub index_of : List ℕ → ℕ → Option ℕ
index_of [] n = None
index_of (x ∷ xs) n = cond (nat_eq x n) (Some 0) (next_index (index_of xs n))

abbrev pub place_of : Places → ℕ → Option ℕ
place_of (Direct _) variable = Some variable
place_of (Listed listed) variable = index_of listed.numbers.items variable
