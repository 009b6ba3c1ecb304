-- Which entries of a trail are marked on the way back from a conflict.
use Rattle.std.specs.Prelude.{ℕ, ◌≡◌, ◌<◌, ◌+◌, ◌↔◌, Bool, IsTrue, false, cond, List, [], ◌∷◌, zero, suc, Some, slice_get, slice_index_or, length, map}
use Rattle.clause_log.specs.Members.{Has}
use Rattle.clause_lits.specs.declared.lit.Lit.{Lit}
use Rattle.clause_lits.specs.Meaning.{IsClause, opposite_of}
use Rattle.clause_search.specs.declared.trail.Entry.{Entry}
use Rattle.clause_search.specs.declared.marks.Marks.{Marks}
use Rattle.clause_search.specs.Learning.{IsBack}

-- one of the literals has the variable
abbrev pub HasVariable : List Lit → ℕ → Type 0
HasVariable ls variable = (l : Lit) × Has ls l × (l.variable ≡ variable)

-- the entries of the variables of these literals are marked, and no others
abbrev pub AreMarked : List Entry → List Lit → List Bool → Type 0
AreMarked trail ls marked = (i : ℕ) (e : Entry) → slice_get trail i ≡ Some e → IsTrue (slice_index_or marked i false) ↔ HasVariable ls e.literal.variable

-- how many are marked from a position on
abbrev pub marked_from : ℕ → List Bool → ℕ
marked_from n [] = 0
marked_from zero (b ∷ bs) = cond b 1 0 + marked_from zero bs
marked_from (suc n) (b ∷ bs) = marked_from n bs

-- each once
abbrev pub AreApart : List ℕ → Type 0
AreApart [] = Unit {0}
AreApart (x ∷ xs) = (Has xs x → ⊥) × AreApart xs

-- the marked ones from the position on are counted, and those before it listed
pub record IsCounted (low : ℕ) (marks : Marks) : Type 0 where
  pub late : marks.late ≡ marked_from low marks.marked.items
  pub early : (i : ℕ) → Has marks.early.items i ↔ ((i < low) × IsTrue (slice_index_or marks.marked.items i false))
  pub apart : AreApart marks.early.items

-- no variable is on the trail twice
abbrev pub IsSingle : List Entry → Type 0
IsSingle trail = (i j : ℕ) (e d : Entry) → slice_get trail i ≡ Some e → slice_get trail j ≡ Some d → e.literal.variable ≡ d.literal.variable → i ≡ j

-- the literal, and the opposites of the entries at the positions
abbrev pub opposites_at : List Entry → Lit → List ℕ → List Lit
opposites_at trail k places = k ∷ map (λ p. opposite_of (slice_index_or trail p (record { literal = k; reason = 0 })).literal) places

-- these are the literals of the clause, and each variable is among them once
pub record IsSpread (trail : List Entry) (k : Lit) (places : List ℕ) (c : List Lit) : Type 0 where
  pub clause : IsClause c
  pub single : IsSingle trail
  pub apart : AreApart places
  pub within : (p : ℕ) → Has places p → p < length trail
  pub other : (p : ℕ) (e : Entry) → Has places p → slice_get trail p ≡ Some e → e.literal.variable ≡ k.variable → ⊥
  pub literals : (l : Lit) → Has c l ↔ Has (opposites_at trail k places) l

-- on the way back from the conflict the variables of the chain's resolvent are marked
pub record IsMarkedBack (clauses : List (List Lit)) (trail : List Entry) (low : ℕ) (chain : List ℕ) (marks : Marks) (place : ℕ) : Type 0 where
  pub current : List Lit
  pub clause : IsClause current
  pub back : IsBack clauses trail low chain current place
  pub long : length marks.marked.items ≡ length trail
  pub marked : AreMarked trail current marks.marked.items
  pub counted : IsCounted low marks
