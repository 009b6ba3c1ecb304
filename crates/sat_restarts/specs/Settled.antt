-- What is known once the first bits of a least model are settled.
use Rattle.std.specs.Prelude.{ℕ, ◌≡◌, ◌<◌, Bool, true, false, List, slice_index_or}
use Rattle.clause_lits.specs.declared.cnf.Cnf.{Cnf}
use Rattle.clause_lits.specs.declared.lit.Lit.{Lit}
use Rattle.clause_lits.specs.Meaning.{IsModel, clauses_true, values_of}
use Rattle.clause_log.specs.declared.step.Step.{Step}
use Rattle.clause_search.specs.Outcome.{IsLess}
use Rattle.clause_search.specs.Searching.{standing}
use Rattle.clause_log.specs.Refutation.{AreSound, Refutes}
use Rattle.sat_restarts.specs.declared.bits.Found.{Found}
use Rattle.sat_restarts.specs.declared.bits.Found.TheVariants as found

-- the first n bits are the same
abbrev pub Agree : ℕ → List Bool → List Bool → Type 0
Agree n a b = (i : ℕ) → i < n → slice_index_or a i false ≡ slice_index_or b i false

-- a model than which no other is less in the first n bits, and clauses whose models are those that
-- agree with it in these
pub record IsSettled (question : Cnf) (n : ℕ) (cnf : Cnf) (values : List Bool) : Type 0 where
  pub variables : cnf.variables ≡ question.variables
  pub model : IsModel question.variables question.clauses values
  pub least : (others : List Bool) → IsModel question.variables question.clauses others
      → IsLess n others values → ⊥
  pub part : (others : List Bool) → IsModel question.variables cnf.clauses others
      → IsModel question.variables question.clauses others × Agree n others values
  pub whole : (others : List Bool) → IsModel question.variables question.clauses others
      → Agree n others values → clauses_true (values_of others) cnf.clauses ≡ true

-- the clauses, and then some that are resolved from them
pub record IsExtended (cnf more : Cnf) : Type 0 where
  pub variables : more.variables ≡ cnf.variables
  pub steps : List Step
  pub sound : AreSound cnf.clauses steps
  pub clauses : more.clauses ≡ standing cnf.clauses steps

-- a model, or that there is none; or nothing
abbrev pub IsFound : ℕ → List (List Lit) → Found → Type 0
IsFound variables clauses (found.Model values) = IsModel variables clauses values
IsFound variables clauses found.Refuted = (log : List Step) × Refutes clauses log
IsFound variables clauses found.Nothing = Unit {0}
