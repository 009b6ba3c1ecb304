-- What the search answers.
use Rattle.std.specs.Prelude.{ℕ, ◌≡◌, ◌<◌, Bool, true, false, List, [], length, slice_get, slice_index_or, Option, Some}
use Rattle.clause_log.specs.Members.{Has}
use Rattle.clause_lits.specs.declared.lit.Lit.{Lit}
use Rattle.clause_lits.specs.Meaning.{IsModel}
use Rattle.clause_log.specs.declared.step.Step.{Step}
use Rattle.clause_search.specs.declared.answer.Answer.{Answer}
use Rattle.clause_search.specs.declared.answer.Answer.TheVariants.{Sat, Unsat, Spent}
use Rattle.clause_log.specs.Refutation.{standing_before, IsSoundAt, Refutes}

-- a is lexicographically less than b on the first `front` values: where they first differ a has 0 and b has 1
pub record IsLess (front : ℕ) (a b : List Bool) : Type 0 where
  pub place : ℕ
  pub within : place < front
  pub zero : slice_index_or a place false ≡ false
  pub one : slice_index_or b place false ≡ true
  pub before : (i : ℕ) → i < place → slice_index_or a i false ≡ slice_index_or b i false

-- a model, and no model is less on the first `front` variables
pub record IsLeast (variables front : ℕ) (clauses : List (List Lit)) (places : List Bool) : Type 0 where
  pub model : IsModel variables clauses places
  pub least : (others : List Bool) → IsModel variables clauses others → IsLess front others places → ⊥

-- the clause has each literal of the other
abbrev pub ContainsClause : List Lit → List Lit → Type 0
ContainsClause c d = (l : Lit) → Has d l → Has c l

-- each step is sound, and none but an empty one contains an earlier clause
pub record IsCareful (clauses : List (List Lit)) (log : List Step) : Type 0 where
  pub sound : (index : ℕ) → index < length log → IsSoundAt clauses log index
  pub new : (index : ℕ) (s : Step) (d : List Lit) → slice_get log index ≡ Some s → Has (standing_before clauses log index) d
      → ContainsClause s.clause d → s.clause ≡ []

-- as many steps as the limit, each careful and none empty
pub record IsSpent (clauses : List (List Lit)) (log : List Step) (limit : ℕ) : Type 0 where
  pub steps : length log ≡ limit
  pub careful : IsCareful clauses log
  pub nonempty : (index : ℕ) (s : Step) → slice_get log index ≡ Some s → s.clause ≡ [] → ⊥

-- what the search promises of its answer
abbrev pub IsAnswer : ℕ → ℕ → List (List Lit) → Option ℕ → Answer → Type 0
IsAnswer variables front clauses limit (Sat places) = IsLeast variables front clauses places
IsAnswer variables front clauses limit (Unsat log) = Refutes clauses log × IsCareful clauses log
IsAnswer variables front clauses limit (Spent log) = (n : ℕ) × (limit ≡ Some n) × IsSpent clauses log n
