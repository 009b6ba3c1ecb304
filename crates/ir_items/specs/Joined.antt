-- Items of two lists of tokens that are joined to one.
use Rattle.std.specs.Prelude.{◌≡◌, ℕ, ◌+◌, ◌-◌, ◌<◌, ◌^◌, List, [], ◌∷◌, ◌++◌, length, min, slice_get, nat_lt, IsSomeAnd, Bool, true, Option, Some, None}
use Rattle.ir_lexer.specs.Lexeme.{Lexeme}
use Rattle.ir_tree.specs.declared.name.Name.{Name}
use Rattle.ir_items.specs.declared.edges.Edges.{Edges}
use Rattle.ir_items.specs.declared.item.Define.{Define}
use Rattle.ir_items.specs.Items.{last_line, IsOther, IsDefine, name_at}

-- IsCut without what that says of the names and the number of the defines: the tokens before an index are items one
-- after another, and these are the defines among them.
pub data AreItems (tokens : List Lexeme) : ℕ → List Define → Type 0 where
  nothing : AreItems tokens 0 []
  other : {first end : ℕ} {defines : List Define} → AreItems tokens first defines → IsOther tokens first end → AreItems tokens end defines
  define : {first place end : ℕ} {name : Name} {defines : List Define} → AreItems tokens first defines → IsDefine tokens first place end → name_at tokens place ≡ Some name
      → AreItems tokens end (defines ++ record { name = name; first = first; last = end - 1 } ∷ [])

-- a define after so many more tokens
abbrev pub later : ℕ → Define → Define
later count d = record { name = d.name; first = count + d.first; last = count + d.last }

-- the second list begins on a later line than the one on which the first ends, by the edges of both
abbrev pub do_meet : Option Edges → Option Edges → Bool
do_meet (Some front) (Some back) = nat_lt front.last_line back.first_line
do_meet front back = true

-- the second list begins on a later line than the one on which the first ends, where both have a token
abbrev pub Meets : List Lexeme → List Lexeme → Type 0
Meets front back = (before t : Lexeme) → slice_get front (length front - 1) ≡ Some before → slice_get back 0 ≡ Some t → last_line before < t.place.line

-- the lines on which some tokens begin and end; of an end past 64 bits the largest line that fits
pub record HasEdges (tokens : List Lexeme) (edges : Edges) : Type 0 where
  pub first : IsSomeAnd (slice_get tokens 0) (λ t. edges.first_line ≡ t.place.line)
  pub last : IsSomeAnd (slice_get tokens (length tokens - 1)) (λ t. edges.last_line ≡ min (last_line t) (2 ^ 64 - 1))

-- the same where there is a token
abbrev pub AreEdges : List Lexeme → Option Edges → Type 0
AreEdges tokens None = tokens ≡ []
AreEdges tokens (Some edges) = HasEdges tokens edges
