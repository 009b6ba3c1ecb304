-- The trail of a search: the literals that are assigned true, in order, each a decision or implied by a clause, its
-- reason (N. Eén and N. Sörensson, "An Extensible SAT-solver", 2003).
use Rattle.clause_log.specs.Members.{Has}
use Rattle.clause_log.specs.Resolution.{same_sign}
use Rattle.std.specs.Prelude.{Bool, nat_eq, ◌&&◌, ℕ, ◌≡◌, ◌<◌, ◌≤◌, ◌⊎◌, false, List, [], ◌∷◌, ◌++◌, Some, map}
use Rattle.clause_lits.specs.declared.lit.Lit.{Lit}
use Rattle.clause_lits.specs.Meaning.{opposite_of}
use Rattle.clause_log.specs.Chain.{clause_numbered}
use Rattle.clause_search.specs.declared.trail.Entry.{Entry}

-- the literal is on the trail
abbrev pub Stands : List Entry → Lit → Type 0
Stands trail l = Has (map (λ e. e.literal) trail) l

-- the opposite literal is
abbrev pub IsFalse : List Entry → Lit → Type 0
IsFalse trail l = Stands trail (opposite_of l)

-- neither is
abbrev pub IsUnassigned : List Entry → ℕ → Type 0
IsUnassigned trail variable = (l : Lit) → Stands trail l → l.variable ≡ variable → ⊥

abbrev pub IsAssigned : List Entry → ℕ → Type 0
IsAssigned trail variable = (l : Lit) × Stands trail l × (l.variable ≡ variable)

abbrev pub AllFalse : List Entry → List Lit → Type 0
AllFalse trail c = (l : Lit) → Has c l → IsFalse trail l

-- each literal but k is false
abbrev pub FalseBut : List Entry → List Lit → Lit → Type 0
FalseBut trail c k = (l : Lit) → Has c l → (l ≡ k) ⊎ IsFalse trail l

-- where all literals of a clause but one are false, that one is true: no clause is unit or false
abbrev pub IsSettled : List (List Lit) → List Entry → Type 0
IsSettled clauses trail = (c : List Lit) → Has clauses c → (k : Lit) → FalseBut trail c k → Stands trail k

-- a decision: the least variable that isn't assigned, as 0, where each clause is settled
pub record IsDecision (clauses : List (List Lit)) (before : List Entry) (e : Entry) : Type 0 where
  pub reason : e.reason ≡ 0
  pub zero : e.literal.positive ≡ false
  pub least : (variable : ℕ) → 0 < variable → variable < e.literal.variable → IsAssigned before variable
  pub settled : IsSettled clauses before

-- the one literal of the reason that isn't false
pub record IsImplied (clauses : List (List Lit)) (before : List Entry) (e : Entry) : Type 0 where
  pub clause : List Lit
  pub reason : clause_numbered clauses e.reason ≡ Some clause
  pub among : Has clauses clause
  pub has : Has clause e.literal
  pub others : FalseBut before clause e.literal

pub record IsGrounded (variables : ℕ) (clauses : List (List Lit)) (before : List Entry) (e : Entry) : Type 0 where
  pub positive : 0 < e.literal.variable
  pub within : e.literal.variable ≤ variables
  pub fresh : IsUnassigned before e.literal.variable
  pub why : IsDecision clauses before e ⊎ IsImplied clauses before e

-- each entry is grounded in those before it
abbrev pub IsTrail : ℕ → List (List Lit) → List Entry → List Entry → Type 0
IsTrail variables clauses before [] = Unit {0}
IsTrail variables clauses before (e ∷ es) = IsGrounded variables clauses before e × IsTrail variables clauses (before ++ e ∷ []) es

-- no literal and its opposite are both true
abbrev pub IsConsistent : List Entry → Type 0
IsConsistent trail = (l : Lit) → Stands trail l → Stands trail (opposite_of l) → ⊥

-- at no decision are all literals of the clause but k false already
abbrev pub IsUnready : List Lit → Lit → List Entry → List Entry → Type 0
IsUnready c k before [] = Unit {0}
IsUnready c k before (e ∷ es) = (e.reason ≡ 0 → FalseBut before c k → ⊥) × IsUnready c k (before ++ e ∷ []) es

-- whether two literals are the same
abbrev pub literal_eq : Lit → Lit → Bool
literal_eq a b = nat_eq a.variable b.variable && same_sign a b
