-- The invariant of a search.
use Rattle.std.specs.Prelude.{ℕ, ◌≡◌, ◌<◌, ◌≤◌, ◌++◌, List, [], Some, map, slice_get}
use Rattle.clause_log.specs.Members.{Has}
use Rattle.clause_lits.specs.declared.lit.Lit.{Lit}
use Rattle.clause_log.specs.declared.step.Step.{Step}
use Rattle.clause_log.specs.Chain.{chain_resolvent}
use Rattle.clause_log.specs.Refutation.{standing_before}
use Rattle.clause_search.specs.declared.trail.Entry.{Entry}
use Rattle.clause_search.specs.Trail.{IsTrail}
use Rattle.clause_search.specs.Outcome.{ContainsClause}

-- the clauses and those of the steps
abbrev pub standing : List (List Lit) → List Step → List (List Lit)
standing clauses log = clauses ++ map (λ s. s.clause) log

-- each literal has a variable in range
abbrev pub AreInRange : ℕ → List (List Lit) → Type 0
AreInRange variables clauses = (c : List Lit) → Has clauses c → (l : Lit) → Has c l → (0 < l.variable) × (l.variable ≤ variables)

-- a step that isn't empty, is its chain's resolvent and contains no earlier clause
pub record IsNew (clauses : List (List Lit)) (log : List Step) (index : ℕ) (s : Step) : Type 0 where
  pub chain : chain_resolvent (standing_before clauses log index) s.chain ≡ Some s.clause
  pub some : (l : Lit) × Has s.clause l
  pub new : (d : List Lit) → Has (standing_before clauses log index) d → ContainsClause s.clause d → ⊥

pub record IsSearch (variables : ℕ) (clauses : List (List Lit)) (log : List Step) (trail : List Entry) : Type 0 where
  pub trail_is : IsTrail variables (standing clauses log) [] trail
  pub in_range : AreInRange variables (standing clauses log)
  pub steps : (index : ℕ) (s : Step) → slice_get log index ≡ Some s → IsNew clauses log index s

-- the last step of a refutation
pub record IsEmptyStep (clauses : List (List Lit)) (s : Step) : Type 0 where
  pub chain : chain_resolvent clauses s.chain ≡ Some s.clause
  pub empty : s.clause ≡ []
