-- What is learned from a conflict: an asserting clause at the first unique implication point (J. Marques-Silva and
-- K. Sakallah, "GRASP", 1996; M. Moskewicz and others, "Chaff", 2001).
use Rattle.std.specs.Prelude.{ℕ, ◌≡◌, ◌<◌, ◌≤◌, List, Some, slice_get, take, length}
use Rattle.clause_log.specs.Members.{Has}
use Rattle.clause_lits.specs.declared.lit.Lit.{Lit}
use Rattle.clause_log.specs.Chain.{chain_resolvent}
use Rattle.clause_search.specs.declared.trail.Entry.{Entry}
use Rattle.clause_search.specs.declared.learning.Learned.{Learned}
use Rattle.clause_search.specs.Trail.{IsUnassigned, AllFalse, FalseBut}

-- there is a decision at the position
abbrev pub IsDecisionAt : List Entry → ℕ → Type 0
IsDecisionAt trail place = (e : Entry) × (slice_get trail place ≡ Some e) × (e.reason ≡ 0)

-- and it is the last one
pub record IsLastDecision (trail : List Entry) (place : ℕ) : Type 0 where
  pub at : IsDecisionAt trail place
  pub later : (i : ℕ) (e : Entry) → place < i → slice_get trail i ≡ Some e → e.reason ≡ 0 → ⊥

-- the asserting clause: the chain's resolvent, which after going back to position `low` is unit, its one
-- unassigned literal the asserting one
pub record IsLearned (variables : ℕ) (clauses : List (List Lit)) (trail : List Entry) (low : ℕ) (learned : Learned) : Type 0 where
  pub chain : chain_resolvent clauses learned.chain ≡ Some learned.clause
  pub has : Has learned.clause learned.literal
  pub unit : FalseBut (take low trail) learned.clause learned.literal
  pub free : IsUnassigned (take low trail) learned.literal.variable
  pub counted : 0 < learned.literal.variable
  pub within : learned.literal.variable ≤ variables

-- the chain's resolvent on the way back from the conflict: false by the first `place` entries, not by the first `low`
pub record IsBack (clauses : List (List Lit)) (trail : List Entry) (low : ℕ) (chain : List ℕ) (current : List Lit) (place : ℕ) : Type 0 where
  pub above : low < place
  pub within : place ≤ length trail
  pub gives : chain_resolvent clauses chain ≡ Some current
  pub all : AllFalse (take place trail) current
  pub some : AllFalse (take low trail) current → ⊥
