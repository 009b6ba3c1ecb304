-- What a first look at the clauses shows, before any decision.
use Rattle.std.specs.Prelude.{ℕ, ◌+◌, Bool, true, false, List, [], Option, Some, None, take, length}
use Rattle.clause_lits.specs.declared.lit.Lit.{Lit}
use Rattle.clause_search.specs.declared.trail.Entry.{Entry}
use Rattle.clause_search.specs.Assigning.{AreImplied}
use Rattle.clause_search.specs.Findings.{IsFalseAt}
use Rattle.clause_search.specs.Searching.{IsSearch, standing}
use Rattle.watch_solver.specs.declared.start.Start.{Start}
use Rattle.watch_solver.specs.declared.watches.Watch.{Watch}
use Rattle.watch_solver.specs.declared.watches.Pair.{Pair}
use Rattle.watch_solver.specs.Kept.{AreKept, AreLinked}

-- a search with no decision yet
pub record IsUndecided (variables : ℕ) (clauses : List (List Lit)) (trail : List Entry) : Type 0 where
  pub search : IsSearch variables clauses [] trail
  pub implied : AreImplied trail 0 (length trail)

-- the first `count` clauses were looked at
pub record IsStarted (variables : ℕ) (clauses : List (List Lit)) (count : ℕ) (pairs : List Pair) (lists : List (List Watch)) (trail : List Entry) : Type 0 where
  pub undecided : IsUndecided variables clauses trail
  pub linked : AreLinked variables (take count clauses) pairs lists
  pub kept : AreKept (take count clauses) pairs [] trail

-- the clause at the index is false, or one more was looked at
abbrev pub IsLookedAt : ℕ → List (List Lit) → ℕ → List Pair → List (List Watch) → List Entry → Bool → Type 0
IsLookedAt variables clauses index pairs lists trail true = IsUndecided variables clauses trail × IsFalseAt (standing clauses []) trail (index + 1)
IsLookedAt variables clauses index pairs lists trail false = IsStarted variables clauses (index + 1) pairs lists trail

-- a clause is false, or all were looked at
abbrev pub IsFirstLook : ℕ → List (List Lit) → List Pair → List (List Watch) → List Entry → Option ℕ → Type 0
IsFirstLook variables clauses pairs lists trail (Some number) = IsFalseAt clauses trail number
IsFirstLook variables clauses pairs lists trail None = AreLinked variables clauses pairs lists × AreKept clauses pairs [] trail

pub record IsStart (variables : ℕ) (clauses : List (List Lit)) (s : Start) : Type 0 where
  pub undecided : IsUndecided variables clauses s.trail
  pub found : IsFirstLook variables (standing clauses []) s.watches.pairs.items s.watches.lists.items s.trail s.conflict
