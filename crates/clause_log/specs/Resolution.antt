-- The resolvent of two clauses: what it is, and how a merge of the two finds it.
use Rattle.clause_lits.specs.Meaning.{IsClause, opposite_of}
use Rattle.clause_log.specs.Members.{Has}
use Rattle.std.specs.Prelude.{◌⊎◌, ◌↔◌, ℕ, ◌≡◌, ◌+◌, Bool, true, false, cond, List, [], ◌∷◌, nat_lt, nat_eq, Option, Some, None}
use Rattle.clause_lits.specs.declared.lit.Lit.{Lit}

-- c is the resolvent of a and b: exactly one variable has opposite signs in them, and c has all their other literals
pub record Resolves (a b c : List Lit) : Type 0 where
  pub pivot : Lit
  pub left : Has a pivot
  pub right : Has b (opposite_of pivot)
  pub only : (l : Lit) → Has a l → Has b (opposite_of l) → l ≡ pivot
  pub ordered : IsClause c
  pub literals : (l : Lit) → Has c l ↔ ((Has a l ⊎ Has b l) × (l.variable ≡ pivot.variable → ⊥))

-- the resolvent, or none where there is none
abbrev pub IsResolventOf : List Lit → List Lit → Option (List Lit) → Type 0
IsResolventOf a b (Some c) = Resolves a b c
IsResolventOf a b None = (c : List Lit) → Resolves a b c → ⊥

-- whether two literals have one sign
abbrev pub same_sign : Lit → Lit → Bool
same_sign x y = cond x.positive y.positive (cond y.positive false true)

-- x and then the literals that rest gives, among those of the other clause
abbrev pub joined_at : Lit → (List Lit → List Lit) → List Lit → List Lit
joined_at x rest [] = x ∷ rest []
joined_at x rest (y ∷ ys) =
    cond (nat_lt x.variable y.variable) (x ∷ rest (y ∷ ys))
    (cond (nat_lt y.variable x.variable) (y ∷ joined_at x rest ys)
    (cond (same_sign x y) (x ∷ rest ys) (rest ys)))

-- the literals of two clauses, in order, without the variables that occur in both with opposite signs
abbrev pub joined : List Lit → List Lit → List Lit
joined [] ys = ys
joined (x ∷ xs) ys = joined_at x (joined xs) ys

abbrev pub clashes_at : Lit → (List Lit → ℕ) → List Lit → ℕ
clashes_at x rest [] = rest []
clashes_at x rest (y ∷ ys) =
    cond (nat_lt x.variable y.variable) (rest (y ∷ ys))
    (cond (nat_lt y.variable x.variable) (clashes_at x rest ys)
    (cond (same_sign x y) (rest ys) (1 + rest ys)))

-- how many variables occur in both clauses with opposite signs
abbrev pub clashes : List Lit → List Lit → ℕ
clashes [] ys = 0
clashes (x ∷ xs) ys = clashes_at x (clashes xs) ys

-- two clauses resolve where exactly one variable occurs in both with opposite signs
abbrev pub resolvent : List Lit → List Lit → Option (List Lit)
resolvent a b = cond (nat_eq (clashes a b) 1) (Some (joined a b)) None
