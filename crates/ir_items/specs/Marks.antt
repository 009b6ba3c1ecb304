-- Which brackets are open after some tokens.
use Rattle.std.specs.Prelude.{◌≡◌, ℕ, ◌-◌, ◌<◌, ◌≤◌, List, [], ◌∷◌, ◌++◌, length, take, slice_index, slice_range, Option, Some, None, Bool, true, false, ◌&&◌, ◌||◌, ◌==◌, nat_lt, if◌then◌else◌, fold}
use Rattle.ir_lexer.specs.declared.token.Kind.{Kind}
use Rattle.ir_lexer.specs.declared.token.Kind.TheVariants as kind
use Rattle.ir_lexer.specs.Lexeme.{Lexeme}

-- the byte of a mark of one byte, 0 for any other token
abbrev pub mark_in : Kind → List ℕ → ℕ
mark_in kind.Mark (b ∷ []) = b
mark_in _ text = 0

abbrev pub mark_of : Lexeme → ℕ
mark_of t = mark_in t.kind t.text

-- ( [ {
abbrev pub opens : ℕ → Bool
opens mark = mark == 40 || mark == 91 || mark == 123

-- ) ] }
abbrev pub closes : ℕ → Bool
closes mark = mark == 41 || mark == 93 || mark == 125

-- the mark that closes an opening one
abbrev pub closing : ℕ → ℕ
closing mark = (if mark == 40 then 41 else (if mark == 91 then 93 else 125))

-- without the last of these marks, if it is this one
abbrev pub shut : List ℕ → ℕ → Option (List ℕ)
shut open_marks mark = (if nat_lt 0 (length open_marks) && slice_index open_marks (length open_marks - 1) == mark then Some (take (length open_marks - 1) open_marks) else None)

-- The closing marks that are still to come, the innermost last; None after a mark that closes what
-- isn't open. What is to come after one more token:
abbrev pub marks_after : Option (List ℕ) → ℕ → Option (List ℕ)
marks_after None mark = None
marks_after (Some open_marks) mark = (if opens mark then Some (open_marks ++ closing mark ∷ []) else (if closes mark then shut open_marks mark else Some open_marks))

-- after all of these tokens
abbrev pub marks_behind : List Lexeme → Option (List ℕ)
marks_behind tokens = fold (λ marks t. marks_after marks (mark_of t)) (Some []) tokens

-- the marks to come at an index, counted from another one
unfoldable pub marks : List Lexeme → ℕ → ℕ → Option (List ℕ)
marks tokens from place = marks_behind (slice_range tokens from place)

-- depth 0: each bracket is closed
abbrev pub IsBalanced : List Lexeme → ℕ → ℕ → Type 0
IsBalanced tokens from place = marks tokens from place ≡ Some []

-- some bracket is open, and none was closed that wasn't
abbrev pub has_open : Option (List ℕ) → Bool
has_open None = false
has_open (Some []) = false
has_open (Some (mark ∷ more)) = true

-- a bracket stays open from the first token on
abbrev pub IsInside : List Lexeme → ℕ → ℕ → Type 0
IsInside tokens from place = (m : ℕ) → from < m → m ≤ place → has_open (marks tokens from m) ≡ true

-- a token that is no bracket, or an opening mark and everything up to the mark that closes it
pub record IsPiece (tokens : List Lexeme) (from end : ℕ) : Type 0 where
  pub some : from < end
  pub within : end ≤ length tokens
  pub balanced : IsBalanced tokens from end
  pub first : (m : ℕ) → from < m → m < end → has_open (marks tokens from m) ≡ true
