-- What a look at all clauses finds.
use Rattle.std.specs.Prelude.{ℕ, ◌≡◌, ◌<◌, ◌+◌, List, Some}
use Rattle.clause_lits.specs.declared.lit.Lit.{Lit}
use Rattle.clause_log.specs.Chain.{clause_numbered}
use Rattle.clause_search.specs.declared.trail.Entry.{Entry}
use Rattle.clause_search.specs.declared.looking.Found.{Found}
use Rattle.clause_search.specs.declared.looking.Found.TheVariants.{Nothing, Unit, Conflict}
use Rattle.clause_search.specs.Trail.{AllFalse, IsSettled}
use Rattle.clause_search.specs.Looks.{IsOpen, IsUnit}

-- the clause of the number is unit, with this literal
pub record IsUnitAt (clauses : List (List Lit)) (trail : List Entry) (number : ℕ) (k : Lit) : Type 0 where
  pub clause : List Lit
  pub at : clause_numbered clauses number ≡ Some clause
  pub unit : IsUnit trail clause k

-- it is false
pub record IsFalseAt (clauses : List (List Lit)) (trail : List Entry) (number : ℕ) : Type 0 where
  pub clause : List Lit
  pub at : clause_numbered clauses number ≡ Some clause
  pub all : AllFalse trail clause

abbrev pub IsFound : List (List Lit) → List Entry → Found → Type 0
IsFound clauses trail Nothing = IsSettled clauses trail
IsFound clauses trail (Unit number k) = IsUnitAt clauses trail number k
IsFound clauses trail (Conflict number) = IsFalseAt clauses trail number

-- the clauses numbered above `from` and up to `to` are settled
abbrev pub AreOpen : List (List Lit) → List Entry → ℕ → ℕ → Type 0
AreOpen clauses trail from to = (n : ℕ) (c : List Lit) → from < n → n < to + 1 → clause_numbered clauses n ≡ Some c → IsOpen trail c

-- what a look at only these finds
abbrev pub IsFoundBetween : List (List Lit) → List Entry → ℕ → ℕ → Found → Type 0
IsFoundBetween clauses trail from to Nothing = AreOpen clauses trail from to
IsFoundBetween clauses trail from to (Unit number k) = IsUnitAt clauses trail number k
IsFoundBetween clauses trail from to (Conflict number) = IsFalseAt clauses trail number
