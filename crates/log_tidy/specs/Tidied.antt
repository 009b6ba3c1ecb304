-- What the steps of a log become as it is tidied.
use Rattle.std.specs.Prelude.{ℕ, ◌≡◌, ◌<◌, List, [], Option, Some, None, length, slice_get}
use Rattle.clause_lits.specs.declared.lit.Lit.{Lit}
use Rattle.clause_log.specs.declared.step.Step.{Step}
use Rattle.clause_log.specs.Members.{Has}
use Rattle.clause_log.specs.Chain.{clause_numbered}
use Rattle.clause_log.specs.Refutation.{Refutes}
use Rattle.clause_search.specs.Outcome.{IsCareful}
use Rattle.clause_search.specs.Searching.{standing}
use Rattle.log_tidy.specs.declared.index.Index.{Index}
use Rattle.log_tidy.specs.Inclusion.{IsWithin}
use Rattle.log_tidy.specs.Indexed.{IsIndexed}

-- the steps so far are careful, and an index has them and the clauses
pub record AreStanding (clauses : List (List Lit)) (kept : List Step) (index : Index) : Type 0 where
  pub careful : IsCareful clauses kept
  pub indexed : IsIndexed (standing clauses kept) index

-- the steps with at most one more, so that a clause of a number lies within this one
pub record IsAdded (clauses : List (List Lit)) (old new : List Step) (index : Index) (c : List Lit)
    (number : ℕ) : Type 0 where
  pub stands : AreStanding clauses new index
  pub grown : (n : ℕ) (d : List Lit) → clause_numbered (standing clauses old) n ≡ Some d
      → clause_numbered (standing clauses new) n ≡ Some d
  pub within : IsWithin (standing clauses new) c number

-- each of the first steps has a clause within it among the kept ones, by its new number
pub record AreTidied (clauses : List (List Lit)) (log : List Step) (place : ℕ) (numbers : List ℕ)
    (kept : List Step) (index : Index) : Type 0 where
  pub long : length numbers ≡ place
  pub stands : AreStanding clauses kept index
  pub shorter : (k : ℕ) (s : Step) → k < place → slice_get log k ≡ Some s
      → (n : ℕ) × (slice_get numbers k ≡ Some n) × IsWithin (standing clauses kept) s.clause n

-- a refutation that is careful
abbrev pub RefutesCarefully : List (List Lit) → List Step → Type 0
RefutesCarefully clauses log = Refutes clauses log × IsCareful clauses log

-- the index of an empty clause, or none where there is none
abbrev pub IsEmptyAt : List (List Lit) → Option ℕ → Type 0
IsEmptyAt clauses None = Has clauses [] → ⊥
IsEmptyAt clauses (Some index) = slice_get clauses index ≡ Some []
