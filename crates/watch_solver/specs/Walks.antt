-- How far propagation has come.
use Rattle.std.specs.Prelude.{ℕ, ◌≡◌, ◌<◌, ◌+◌, ◌++◌, ◌⊎◌, List, [], ◌∷◌, Option, Some, None, slice_get, take, length}
use Rattle.clause_lits.specs.declared.lit.Lit.{Lit}
use Rattle.clause_lits.specs.Meaning.{opposite_of}
use Rattle.clause_log.specs.declared.step.Step.{Step}
use Rattle.clause_log.specs.Members.{Has}
use Rattle.clause_search.specs.Learning.{IsDecisionAt}
use Rattle.clause_search.specs.declared.trail.Entry.{Entry}
use Rattle.clause_search.specs.Findings.{IsFalseAt}
use Rattle.clause_search.specs.Searching.{IsSearch, standing}
use Rattle.watch_solver.specs.declared.watches.Watch.{Watch}
use Rattle.watch_solver.specs.declared.watches.Pair.{Pair}
use Rattle.watch_solver.specs.Codes.{index_of}
use Rattle.watch_solver.specs.Kept.{AreKept, AreKeptBack, AreLinked, IsKept}
use Rattle.watch_solver.specs.Lists.{HasFrom, list_of}

-- the watches match the clauses, and the trail as each decision was made
pub record IsWatched (variables : ℕ) (clauses : List (List Lit)) (pairs : List Pair) (lists : List (List Watch)) (trail : List Entry) : Type 0 where
  pub linked : AreLinked variables clauses pairs lists
  pub back : AreKeptBack clauses pairs trail

-- each clause is kept by the first `done + 1` entries, or by the first `done` and is still to be looked at
abbrev pub AreVisited : List (List Lit) → List Pair → List Entry → ℕ → List Watch → ℕ → Type 0
AreVisited clauses pairs trail done watches place = (n : ℕ) (c : List Lit) (p : Pair) → slice_get clauses n ≡ Some c → slice_get pairs n ≡ Some p
    → IsKept (take (done + 1) trail) trail c p ⊎ (IsKept (take done trail) trail c p × HasFrom watches place n)

-- the entry at `done` made the literal false
pub record IsFalsified (trail : List Entry) (done : ℕ) (falsified : Lit) : Type 0 where
  pub entry : Entry
  pub at : slice_get trail done ≡ Some entry
  pub is : falsified ≡ opposite_of entry.literal

-- what holds before the watch at index `place` is looked at
pub record IsWalk (variables : ℕ) (clauses : List (List Lit)) (log : List Step) (pairs : List Pair) (lists : List (List Watch)) (trail : List Entry)
    (done : ℕ) (falsified : Lit) (place : ℕ) : Type 0 where
  pub search : IsSearch variables clauses log trail
  pub watched : IsWatched variables (standing clauses log) pairs lists trail
  pub visited : AreVisited (standing clauses log) pairs trail done (list_of lists falsified) place
  pub falsified_is : IsFalsified trail done falsified

-- all clauses are kept by the entries before `done`, or one is false
abbrev pub IsPropagated : List (List Lit) → List Pair → List Entry → ℕ → Option ℕ → Type 0
IsPropagated clauses pairs trail done None = AreKept clauses pairs (take done trail) trail
IsPropagated clauses pairs trail done (Some number) = IsFalseAt clauses trail number

-- each literal of the clause has a code and a list
pub record IsRoomy (lists : List (List Watch)) (c : List Lit) : Type 0 where
  pub coded : (l : Lit) → Has c l → l.variable < 2147483648
  pub listed : (l : Lit) → Has c l → index_of l < length lists

-- one more pair, by which the clause is kept at each decision before the position
pub record IsAdded (trail : List Entry) (place : ℕ) (c : List Lit) (old new : List Pair) : Type 0 where
  pub pair : Pair
  pub pairs : new ≡ old ++ pair ∷ []
  pub kept : (d : ℕ) → d < place → IsDecisionAt trail d → IsKept (take d trail) (take d trail) c pair
