-- Which clauses watch a literal.
use Rattle.std.specs.Prelude.{ℕ, ◌≡◌, ◌≤◌, List, [], ◌∷◌, ◌++◌, Some, slice_get, slice_set, slice_index_or}
use Rattle.clause_lits.specs.declared.lit.Lit.{Lit}
use Rattle.watch_solver.specs.declared.watches.Watch.{Watch}
use Rattle.watch_solver.specs.Codes.{index_of}

abbrev pub list_of : List (List Watch) → Lit → List Watch
list_of lists l = slice_index_or lists (index_of l) []

-- the lists with another one for a literal
abbrev pub with_list : List (List Watch) → Lit → List Watch → List (List Watch)
with_list lists l watches = slice_set lists (index_of l) watches

-- with one more watch of a literal
abbrev pub with_watch : List (List Watch) → Lit → Watch → List (List Watch)
with_watch lists l watch = with_list lists l (list_of lists l ++ watch ∷ [])

-- from index `place` on there is a watch of the clause at index n
pub record HasFrom (watches : List Watch) (place n : ℕ) : Type 0 where
  pub index : ℕ
  pub watch : Watch
  pub late : place ≤ index
  pub at : slice_get watches index ≡ Some watch
  pub same : watch.clause ≡ n
