-- Which logs refute their clauses, and the first wrong step of one that doesn't. A step is a clause with the chain of
-- earlier clauses that it is resolved from, as a RUP step with its hints is in LRAT (L. Cruz-Filipe and others,
-- "Efficient Certified RAT Verification", 2017).
use Rattle.std.specs.Prelude.{ℕ, ◌≡◌, ◌<◌, ◌-◌, ◌++◌, ◌⊎◌, List, [], Some, slice_get, map, take, length}
use Rattle.clause_lits.specs.declared.lit.Lit.{Lit}
use Rattle.clause_log.specs.declared.step.Step.{Step}
use Rattle.clause_log.specs.Chain.{chain_resolvent}

-- the clauses before the step at an index: the given ones, and then those of the earlier steps
abbrev pub standing_before : List (List Lit) → List Step → ℕ → List (List Lit)
standing_before clauses log index = clauses ++ map (λ s. s.clause) (take index log)

-- the step's clause is the resolvent of its chain of earlier clauses
abbrev pub IsSound : List (List Lit) → List Step → ℕ → Step → Type 0
IsSound clauses log index s = chain_resolvent (standing_before clauses log index) s.chain ≡ Some s.clause

-- there is a step at the index, and it is sound
abbrev pub IsSoundAt : List (List Lit) → List Step → ℕ → Type 0
IsSoundAt clauses log index = (s : Step) × (slice_get log index ≡ Some s) × IsSound clauses log index s

-- each step's clause is the resolvent of its chain of earlier clauses
abbrev pub AreSound : List (List Lit) → List Step → Type 0
AreSound clauses log = (index : ℕ) → index < length log → IsSoundAt clauses log index

-- there is a last step, and its clause is empty
abbrev pub EndsEmpty : List Step → Type 0
EndsEmpty log = (s : Step) × (slice_get log (length log - 1) ≡ Some s) × (s.clause ≡ [])

-- each step is sound, and the last one's clause is empty
pub record Refutes (clauses : List (List Lit)) (log : List Step) : Type 0 where
  pub sound : (index : ℕ) → index < length log → IsSoundAt clauses log index
  pub empty : EndsEmpty log

-- the least step that isn't sound, or the log's length where all are and the last isn't empty
pub record IsFirstBad (clauses : List (List Lit)) (log : List Step) (index : ℕ) : Type 0 where
  pub before : (i : ℕ) → i < index → IsSoundAt clauses log i
  pub here : ((index < length log) × (IsSoundAt clauses log index → ⊥)) ⊎ ((index ≡ length log) × (EndsEmpty log → ⊥))
