-- What a look at a clause shows one of whose watched literals became false.
use Rattle.std.specs.Prelude.{ℕ, ◌≡◌, ◌+◌, ◌⊎◌, List, Option, Some, None, slice_get}
use Rattle.clause_log.specs.Members.{Has}
use Rattle.clause_lits.specs.declared.lit.Lit.{Lit}
use Rattle.clause_search.specs.declared.trail.Entry.{Entry}
use Rattle.clause_search.specs.Trail.{Stands, IsFalse}
use Rattle.clause_search.specs.Findings.{IsUnitAt, IsFalseAt}
use Rattle.watch_solver.specs.declared.watches.Pair.{Pair}
use Rattle.watch_solver.specs.declared.code.Code.{Code}
use Rattle.watch_solver.specs.declared.verdict.Verdict.{Verdict}
use Rattle.watch_solver.specs.declared.verdict.Verdict.TheVariants.{True, Elsewhere, Move, Unit, False}
use Rattle.watch_solver.specs.Codes.{lit_of}
use Rattle.watch_solver.specs.Kept.{IsPair}

-- the literal is one of the two
abbrev pub IsOneOf : Pair → Lit → Type 0
IsOneOf p l = (lit_of p.first ≡ l) ⊎ (lit_of p.second ≡ l)

-- the literal of the clause is true
pub record IsTrueBy (clauses : List (List Lit)) (trail : List Entry) (n : ℕ) (l : Lit) : Type 0 where
  pub clause : List Lit
  pub at : slice_get clauses n ≡ Some clause
  pub has : Has clause l
  pub stands : Stands trail l

-- two literals of the clause: one that isn't false, and one that is watched and isn't the false one
pub record IsMove (clauses : List (List Lit)) (pairs : List Pair) (trail : List Entry) (falsified : Lit) (n : ℕ) (new : Pair) : Type 0 where
  pub clause : List Lit
  pub old : Pair
  pub at : slice_get clauses n ≡ Some clause
  pub old_at : slice_get pairs n ≡ Some old
  pub is : IsPair clause new
  pub free : IsFalse trail (lit_of new.first) → ⊥
  pub other : IsOneOf old (lit_of new.second)
  pub apart : lit_of new.second ≡ falsified → ⊥

abbrev pub IsVerdict : List (List Lit) → List Pair → List Entry → Lit → ℕ → Verdict → Type 0
IsVerdict clauses pairs trail falsified n (True code) = IsTrueBy clauses trail n (lit_of code)
IsVerdict clauses pairs trail falsified n Elsewhere = (p : Pair) → slice_get pairs n ≡ Some p → IsOneOf p falsified → ⊥
IsVerdict clauses pairs trail falsified n (Move pair) = IsMove clauses pairs trail falsified n pair
IsVerdict clauses pairs trail falsified n (Unit literal) = IsUnitAt clauses trail (n + 1) literal
IsVerdict clauses pairs trail falsified n False = IsFalseAt clauses trail (n + 1)

-- the other one of the two, if this is one of them
abbrev pub IsOther : Pair → Lit → Option Code → Type 0
IsOther p l None = IsOneOf p l → ⊥
IsOther p l (Some code) = ((lit_of p.first ≡ l) × (lit_of p.second ≡ lit_of code)) ⊎ ((lit_of p.second ≡ l) × (lit_of p.first ≡ lit_of code))
