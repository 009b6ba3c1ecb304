-- Chains resolved again, from clauses within those that they were resolved from.
use Rattle.std.specs.Prelude.{ℕ, ◌≡◌, ◌++◌, List, [], ◌∷◌, Some}
use Rattle.clause_lits.specs.declared.lit.Lit.{Lit}
use Rattle.clause_lits.specs.Meaning.{IsClause}
use Rattle.clause_log.specs.declared.step.Step.{Step}
use Rattle.clause_log.specs.Members.{Has}
use Rattle.clause_log.specs.Resolution.{resolvent}
use Rattle.clause_log.specs.Chain.{chain_resolvent, clause_numbered}
use Rattle.clause_search.specs.Outcome.{ContainsClause}
use Rattle.log_tidy.specs.Inclusion.{IsWithin}

abbrev pub IsNumbered : List (List Lit) → ℕ → Type 0
IsNumbered clauses number = (d : List Lit) × (clause_numbered clauses number ≡ Some d)

-- each clause has one within it among others, by its new number
abbrev pub AreShorter : (ℕ → ℕ) → List (List Lit) → List (List Lit) → Type 0
AreShorter f old new =
    (n : ℕ) (d : List Lit) → clause_numbered old n ≡ Some d → IsWithin new d (f n)

-- the clauses of a chain are the same, by their new numbers
abbrev pub AreSame : (ℕ → ℕ) → List (List Lit) → List (List Lit) → List ℕ → Type 0
AreSame f old new chain = (n : ℕ) (d : List Lit) → Has chain n
    → clause_numbered old n ≡ Some d → clause_numbered new (f n) ≡ Some d

-- the resolvent of two clauses, and clauses within the two
abbrev pub AreParts : List Lit → List Lit → List Lit → Type 0
AreParts whole left right = (a b : List Lit) × (resolvent a b ≡ Some whole) × IsClause a
    × IsClause b × ContainsClause a left × ContainsClause b right

-- the step is its chain's resolvent, and lies within a clause
abbrev pub IsDerived : List (List Lit) → List Lit → Step → Type 0
IsDerived clauses c s =
    (chain_resolvent clauses s.chain ≡ Some s.clause) × ContainsClause c s.clause

-- the two have a resolvent
abbrev pub Resolve : List Lit → List Lit → Type 0
Resolve a b = (c : List Lit) × (resolvent a b ≡ Some c)

-- the step with one more clause in its chain
abbrev pub IsResolved : Step → List Lit → ℕ → Step → Type 0
IsResolved s next number r =
    (resolvent s.clause next ≡ Some r.clause) × (r.chain ≡ s.chain ++ number ∷ [])
