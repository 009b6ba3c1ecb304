-- The index that finds a clause within another one, which it subsumes.
use Rattle.std.specs.Prelude.{ℕ, ◌≡◌, ◌<◌, ◌+◌, ◌++◌, ◌%◌, ◌^◌, cond, List, [], ◌∷◌, Option, Some, None, length, slice_get, slice_index_or, slice_set, bit_or}
use Rattle.clause_lits.specs.declared.lit.Lit.{Lit}
use Rattle.clause_log.specs.Members.{Has}
use Rattle.clause_log.specs.Chain.{clause_numbered}
use Rattle.clause_search.specs.Outcome.{ContainsClause}
use Rattle.log_tidy.specs.declared.index.Entry.{Entry}
use Rattle.log_tidy.specs.declared.index.Index.{Index}
use Rattle.log_tidy.specs.declared.index.Signature.{Signature}
use Rattle.log_tidy.specs.Inclusion.{IsWithin}

-- a literal's slot: those of positive ones come first
abbrev pub slot : ℕ → Lit → ℕ
slot half l = cond l.positive (l.variable % half) (half + l.variable % half)

-- a bit for each literal of a clause, that of its slot
abbrev pub bits : ℕ → List Lit → ℕ
bits half [] = 0
bits half (l ∷ ls) = bit_or (2 ^ slot half l) (bits half ls)

abbrev pub signature : List Lit → Signature
signature c = record { first = bits 32 c; second = bits 31 c }

-- a signature has each bit of another
abbrev pub Covers : Signature → Signature → Type 0
Covers whole part =
    (bit_or part.first whole.first ≡ whole.first) × (bit_or part.second whole.second ≡ whole.second)

-- two slots for each remainder
pub record IsSized (index : Index) : Type 0 where
  pub some : 0 < index.half
  pub small : index.half + index.half < 18446744073709551616
  pub lists : length index.lists.items ≡ index.half + index.half

-- an entry of the clause is in the slot of one of its literals, with its signature
pub record IsListed (half : ℕ) (lists : List (List Entry)) (number : ℕ) (d : List Lit) : Type 0 where
  pub literal : Lit
  pub has : Has d literal
  pub list : List Entry
  pub at : slice_get lists (slot half literal) ≡ Some list
  pub entry : Entry
  pub among : Has list entry
  pub same : entry.number ≡ number
  pub signed : entry.signature ≡ signature d

-- each of the clauses has an entry
pub record IsIndexed (clauses : List (List Lit)) (index : Index) : Type 0 where
  pub sized : IsSized index
  pub each : (n : ℕ) (d : List Lit) → clause_numbered clauses n ≡ Some d
      → IsListed index.half index.lists.items n d

-- this signature has each bit of the entry's, which is of a clause within this one
abbrev pub IsHit : List (List Lit) → Signature → List Lit → Entry → Type 0
IsHit clauses own c e = Covers own e.signature × IsWithin clauses c e.number

-- none of the entries is a hit
abbrev pub AreNone : List (List Lit) → List Entry → Signature → List Lit → Type 0
AreNone clauses entries own c = (e : Entry) → Has entries e → IsHit clauses own c e → ⊥

abbrev pub IsFirst : List (List Lit) → List Entry → Signature → List Lit → Option ℕ → Type 0
IsFirst clauses entries own c None = AreNone clauses entries own c
IsFirst clauses entries own c (Some number) = IsWithin clauses c number

-- a clause within this one, or none where there is none
abbrev pub IsFound : List (List Lit) → List Lit → Option ℕ → Type 0
IsFound clauses c None = (d : List Lit) → Has clauses d → ContainsClause c d → ⊥
IsFound clauses c (Some number) = IsWithin clauses c number

-- the index with one more entry
pub record IsEntered (old new : Index) (number : ℕ) (c : List Lit) : Type 0 where
  pub half : new.half ≡ old.half
  pub sized : IsSized new
  pub kept : (n : ℕ) (d : List Lit) → IsListed old.half old.lists.items n d
      → IsListed new.half new.lists.items n d
  pub own : IsListed new.half new.lists.items number c

-- one more entry in the slot of a literal
pub record IsPut (old new : Index) (literal : Lit) (entry : Entry) : Type 0 where
  pub half : new.half ≡ old.half
  pub lists : new.lists.items ≡ slice_set old.lists.items (slot old.half literal)
      (slice_index_or old.lists.items (slot old.half literal) [] ++ entry ∷ [])
