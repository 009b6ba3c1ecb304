-- What holds of watched literals all through a search (M. Moskewicz and others, "Chaff", 2001; N. Eén and N. Sörensson,
-- "An Extensible SAT-solver", 2003).
use Rattle.std.specs.Prelude.{ℕ, ◌≡◌, ◌+◌, ◌*◌, ◌≤◌, ◌⊎◌, List, Some, slice_get, take, length}
use Rattle.clause_log.specs.Members.{Has}
use Rattle.clause_lits.specs.declared.lit.Lit.{Lit}
use Rattle.clause_search.specs.declared.trail.Entry.{Entry}
use Rattle.clause_search.specs.Trail.{Stands, IsFalse}
use Rattle.clause_search.specs.Learning.{IsDecisionAt}
use Rattle.watch_solver.specs.declared.watches.Watch.{Watch}
use Rattle.watch_solver.specs.declared.watches.Pair.{Pair}
use Rattle.watch_solver.specs.Codes.{lit_of}
use Rattle.watch_solver.specs.Lists.{HasFrom, list_of}

-- a literal of the clause is true
abbrev pub IsTrueOn : List Entry → List Lit → Type 0
IsTrueOn trail c = (l : Lit) × Has c l × Stands trail l

abbrev pub AreApart : Pair → Type 0
AreApart p = lit_of p.first ≡ lit_of p.second → ⊥

-- two literals of the clause
pub record IsPair (c : List Lit) (p : Pair) : Type 0 where
  pub first : Has c (lit_of p.first)
  pub second : Has c (lit_of p.second)
  pub apart : AreApart p

-- neither of the two watched literals of the clause was false
pub record AreFree (early : List Entry) (c : List Lit) (p : Pair) : Type 0 where
  pub pair : IsPair c p
  pub first : IsFalse early (lit_of p.first) → ⊥
  pub second : IsFalse early (lit_of p.second) → ⊥

-- the clause is true, or neither of its watched literals was false
abbrev pub IsKept : List Entry → List Entry → List Lit → Pair → Type 0
IsKept early trail c p = IsTrueOn trail c ⊎ AreFree early c p

abbrev pub AreKept : List (List Lit) → List Pair → List Entry → List Entry → Type 0
AreKept clauses pairs early trail = (n : ℕ) (c : List Lit) (p : Pair) → slice_get clauses n ≡ Some c → slice_get pairs n ≡ Some p
    → IsKept early trail c p

-- as each decision was made
abbrev pub AreKeptBack : List (List Lit) → List Pair → List Entry → Type 0
AreKeptBack clauses pairs trail = (place : ℕ) → IsDecisionAt trail place → AreKept clauses pairs (take place trail) (take place trail)

-- a watch of a clause with two watched literals, and a literal of that clause
pub record IsWatch (clauses : List (List Lit)) (pairs : List Pair) (w : Watch) : Type 0 where
  pub clause : List Lit
  pub pair : Pair
  pub at : slice_get clauses w.clause ≡ Some clause
  pub pair_at : slice_get pairs w.clause ≡ Some pair
  pub is : IsPair clause pair
  pub blocker : Has clause (lit_of w.blocker)

-- the lists have each clause under both its watched literals, and nothing that isn't a watch
pub record AreLinked (variables : ℕ) (clauses : List (List Lit)) (pairs : List Pair) (lists : List (List Watch)) : Type 0 where
  pub count : length pairs ≡ length clauses
  pub room : 2 * variables + 2 ≤ length lists
  pub watches : (l : Lit) (i : ℕ) (w : Watch) → slice_get (list_of lists l) i ≡ Some w → IsWatch clauses pairs w
  pub first : (n : ℕ) (p : Pair) → slice_get pairs n ≡ Some p → AreApart p → HasFrom (list_of lists (lit_of p.first)) 0 n
  pub second : (n : ℕ) (p : Pair) → slice_get pairs n ≡ Some p → AreApart p → HasFrom (list_of lists (lit_of p.second)) 0 n
