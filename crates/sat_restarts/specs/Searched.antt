-- What a search answers.
use Rattle.std.specs.Prelude.{ℕ, ◌≡◌, List, Option, Some}
use Rattle.clause_lits.specs.declared.lit.Lit.{Lit}
use Rattle.clause_lits.specs.Meaning.{IsModel}
use Rattle.clause_log.specs.Refutation.{Refutes}
use Rattle.clause_search.specs.Outcome.{IsCareful, IsSpent}
use Rattle.sat_restarts.specs.declared.searching.Searched.{Searched}
use Rattle.sat_restarts.specs.declared.searching.Searched.TheVariants as searched

-- a model; a refutation; or as many learned clauses as the limit
abbrev pub IsSearched : ℕ → List (List Lit) → Option ℕ → Searched → Type 0
IsSearched variables clauses limit (searched.Model values budget) = IsModel variables clauses values
IsSearched variables clauses limit (searched.Refuted log) =
    Refutes clauses log × IsCareful clauses log
IsSearched variables clauses limit (searched.Spent log) =
    (n : ℕ) × (limit ≡ Some n) × IsSpent clauses log n
