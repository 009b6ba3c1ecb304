-- What literals, clauses and lists of clauses mean under a valuation, which gives each variable a value.
use Rattle.std.specs.Prelude.{ℕ, ◌≡◌, ◌-◌, ◌<◌, ◌≤◌, Bool, true, false, not, cond, All, List, [], ◌∷◌, length, slice_index_or}
use Rattle.std.specs.List.{list_any, list_all}
use Rattle.clause_lits.specs.declared.lit.Lit.{Lit}

-- the literal of the same variable and the other sign
abbrev pub opposite_of : Lit → Lit
opposite_of l = record { variable = l.variable; positive = not l.positive }

abbrev pub lit_true : (ℕ → Bool) → Lit → Bool
lit_true v l = cond l.positive (v l.variable) (not (v l.variable))

-- some literal of the clause is true
abbrev pub clause_true : (ℕ → Bool) → List Lit → Bool
clause_true v ls = list_any (lit_true v) ls

-- each of the clauses is true
abbrev pub clauses_true : (ℕ → Bool) → List (List Lit) → Bool
clauses_true v cs = list_all (clause_true v) cs

-- the variables rise strictly, from above n
abbrev pub RisesFrom : ℕ → List Lit → Type 0
RisesFrom n [] = Unit {0}
RisesFrom n (l ∷ ls) = (n < l.variable) × RisesFrom l.variable ls

-- in order of the variables, each of them once, none of them 0
abbrev pub IsClause : List Lit → Type 0
IsClause ls = RisesFrom 0 ls

-- the clauses use only variables 1 to `variables`
abbrev pub AreWithin : ℕ → List (List Lit) → Type 0
AreWithin variables cs = All (λ c. All (λ l. (0 < l.variable) × (l.variable ≤ variables)) c) cs

-- index i of an assignment has the value of variable i + 1
abbrev pub values_of : List Bool → ℕ → Bool
values_of places x = slice_index_or places (x - 1) false

-- an assignment of `variables` variables that makes a literal of each clause true
abbrev pub IsModel : ℕ → List (List Lit) → List Bool → Type 0
IsModel variables clauses places = (length places ≡ variables) × (clauses_true (values_of places) clauses ≡ true)
