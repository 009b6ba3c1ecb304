-- Clauses that ask which bits pass a test, and what answers them.
use Rattle.std.specs.Prelude.{ℕ, ◌+◌, ◌^◌, ◌<◌, ◌≡◌, Bool, true, List, [], ◌∷◌, ◌++◌, length, take, Option, Some}
use Rattle.clause_lits.specs.declared.lit.Lit.{Lit}
use Rattle.clause_lits.specs.declared.cnf.Cnf.{Cnf}
use Rattle.clause_lits.specs.Meaning.{IsModel, lit_true, values_of}
use Rattle.clause_log.specs.Refutation.{Refutes}
use Rattle.clause_log.specs.declared.step.Cert.{Cert}
use Rattle.clause_search.specs.declared.answer.Answer.{Answer}
use Rattle.clause_search.specs.declared.answer.Answer.TheVariants as answer
use Rattle.clause_search.specs.Outcome.{IsCareful, IsLess, IsSpent}
use Rattle.log_tidy.specs.Used.{AreUsed}
use Rattle.sat_ask.specs.declared.asked.Asked.{Asked}
use Rattle.sat_ask.specs.declared.asked.Asked.TheVariants as asked

-- the last clause is one literal; each list of `count` bits is the values of the ordered variables in exactly one model
-- of the others, and in each of their models the literal is true exactly where these values pass the test
pub record Asks (test : List Bool → Bool) (count : ℕ) (cnf : Cnf) : Type 0 where
  pub body : List (List Lit)
  pub literal : Lit
  pub clauses : cnf.clauses ≡ body ++ (literal ∷ []) ∷ []
  pub front : cnf.front ≡ count
  pub one : (digits : List Bool) → length digits ≡ count
      → (places : List Bool) × IsModel cnf.variables body places × (take count places ≡ digits)
      × ((others : List Bool) → IsModel cnf.variables body others → take count others ≡ digits → others ≡ places)
  pub right : (places : List Bool) → IsModel cnf.variables body places → lit_true (values_of places) literal ≡ test (take count places)

-- bits that pass, the lexicographically least
pub record IsLeastOf (test : List Bool → Bool) (count : ℕ) (digits : List Bool) : Type 0 where
  pub long : length digits ≡ count
  pub passes : test digits ≡ true
  pub least : (others : List Bool) → length others ≡ count → test others ≡ true → IsLess count others digits → ⊥

-- no bits pass
abbrev pub NonePass : (List Bool → Bool) → ℕ → Type 0
NonePass test count = (digits : List Bool) → length digits ≡ count → test digits ≡ true → ⊥

-- what is found: the least bits that pass; that none do, with a refutation of clauses that ask which do; or as many learned clauses as the limit, of such clauses
abbrev pub IsFound : (List Bool → Bool) → ℕ → Option ℕ → Asked → Type 0
IsFound test count limit (asked.Least digits) = IsLeastOf test count digits.items
IsFound test count limit (asked.None cert) = NonePass test count × Asks test count cert.cnf × Refutes cert.cnf.clauses cert.log × IsCareful cert.cnf.clauses cert.log
IsFound test count limit (asked.Spent cert) = Asks test count cert.cnf × ((n : ℕ) × (limit ≡ Some n) × IsSpent cert.cnf.clauses cert.log n)

-- variables and the numbers of clauses and steps are below 2^62, so that a text can hold them
pub record HasSmallNumbers (cert : Cert) : Type 0 where
  pub variables : cert.cnf.variables < 2 ^ 62
  pub clauses : length cert.cnf.clauses + length cert.log < 2 ^ 62

abbrev pub AreSmall : Asked → Type 0
AreSmall (asked.Least digits) = Unit {0}
AreSmall (asked.None cert) = HasSmallNumbers cert
AreSmall (asked.Spent cert) = HasSmallNumbers cert

-- what is answered
abbrev pub IsAsked : (List Bool → Bool) → ℕ → Option ℕ → Asked → Type 0
IsAsked test count limit asked = IsFound test count limit asked × AreSmall asked

-- ---- the steps of a refutation

-- each step but the last is used by a later one
abbrev pub UsesEachStep : Asked → Type 0
UsesEachStep (asked.None cert) = AreUsed cert.cnf.clauses cert.log
UsesEachStep _ = Unit {0}

-- likewise of what a search of these clauses answers
abbrev pub UsesEachStepOf : List (List Lit) → Answer → Type 0
UsesEachStepOf clauses (answer.Unsat log) = AreUsed clauses log
UsesEachStepOf clauses _ = Unit {0}
