-- Whether one clause has each literal of another, as a merge of the two finds it.
use Rattle.std.specs.Prelude.{ℕ, ◌≡◌, Bool, true, false, cond, List, [], ◌∷◌, nat_lt, Some}
use Rattle.clause_lits.specs.declared.lit.Lit.{Lit}
use Rattle.clause_log.specs.Chain.{clause_numbered}
use Rattle.clause_search.specs.Outcome.{ContainsClause}
use Rattle.clause_search.specs.Trail.{literal_eq}

-- x is in the list, and then what `rest` says of the literals after it
abbrev pub included_at : Lit → (List Lit → Bool) → List Lit → Bool
included_at x rest [] = false
included_at x rest (y ∷ ys) =
    cond (nat_lt y.variable x.variable) (included_at x rest ys)
    (cond (literal_eq x y) (rest ys) false)

abbrev pub included : List Lit → List Lit → Bool
included [] ys = true
included (x ∷ xs) ys = included_at x (included xs) ys

-- the number is of a clause that lies within this one
abbrev pub IsWithin : List (List Lit) → List Lit → ℕ → Type 0
IsWithin clauses c number =
    (d : List Lit) × (clause_numbered clauses number ≡ Some d) × ContainsClause c d
