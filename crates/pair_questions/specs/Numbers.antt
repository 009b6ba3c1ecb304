-- A question of numbers: which of them, given to the variables in order, make a term true.
use Rattle.std.specs.Prelude.{◌≡◌, ℕ, Bool, List, length, slice_index, Option, Some}
use Rattle.bv_terms.specs.declared.term.TermId.{TermId}
use Rattle.bv_terms.specs.declared.term.Term.{Term}
use Rattle.bv_terms.specs.Trees.{bit_at}
use Rattle.clause_lits.specs.declared.cnf.Cnf.{Cnf}
use Rattle.clause_log.specs.declared.step.Cert.{Cert}
use Rattle.clause_log.specs.Refutation.{Refutes}
use Rattle.clause_search.specs.Outcome.{IsCareful, IsSpent}
use Rattle.answer_order.specs.Fronts.{IsLeast, NonePass, numbers_of, total}
use Rattle.sat_ask.specs.Asks.{Asks, HasSmallNumbers}
use Rattle.pair_questions.specs.declared.found.Found.{Found}
use Rattle.pair_questions.specs.declared.found.Found.TheVariants as found

-- each variable has the number at its index
abbrev pub looked_up : List ℕ → ℕ → ℕ → ℕ
looked_up numbers number width = slice_index numbers number

-- whether the numbers make the term true
abbrev pub number_test : List Term → TermId → List ℕ → Bool
number_test terms goal numbers = bit_at (looked_up numbers) terms goal

-- clauses that ask which numbers of these widths pass
pub record AsksNumbers (test : List ℕ → Bool) (widths : List ℕ) (cnf : Cnf) : Type 0 where
  pub of_digits : List Bool → Bool
  pub asks : Asks of_digits (total widths) cnf
  pub means : (digits : List Bool) → length digits ≡ total widths → of_digits digits ≡ test (numbers_of widths digits)

-- no numbers pass, and the log shows it
pub record IsRefutedTest (test : List ℕ → Bool) (widths : List ℕ) (cert : Cert) : Type 0 where
  pub asks : AsksNumbers test widths cert.cnf
  pub refutes : Refutes cert.cnf.clauses cert.log
  pub careful : IsCareful cert.cnf.clauses cert.log
  pub small : HasSmallNumbers cert

pub record IsSpentTest (test : List ℕ → Bool) (widths : List ℕ) (limit : ℕ) (cert : Cert) : Type 0 where
  pub asks : AsksNumbers test widths cert.cnf
  pub spent : IsSpent cert.cnf.clauses cert.log limit
  pub small : HasSmallNumbers cert

abbrev pub IsFoundNumbers : (List ℕ → Bool) → List ℕ → Option ℕ → Found (List ℕ) → Type 0
IsFoundNumbers test widths limit (found.Least numbers) = IsLeast test widths numbers
IsFoundNumbers test widths limit (found.None cert) = NonePass test widths × IsRefutedTest test widths cert
IsFoundNumbers test widths limit (found.Spent cert) = (n : ℕ) × (limit ≡ Some n) × IsSpentTest test widths n cert
