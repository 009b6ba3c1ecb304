-- A token of a text in few bytes: where it begins, and how long it is.
use Rattle.std.specs.Prelude.{◌≡◌, ◌≤◌, ◌+◌, ℕ, List, length, take, drop}
use Rattle.std.specs.List.{All}
use Rattle.text_places.specs.declared.place.Place.{Place}
use Rattle.text_places.specs.Place.{place_at}
use Rattle.ir_lexer.specs.declared.mark.Mark.{Mark}
use Rattle.ir_lexer.specs.Lexeme.{Lexeme}

-- what is kept of a token
abbrev pub mark_of : Lexeme → Mark
mark_of t = record { at = t.at; len = length t.text; line = t.place.line; kind = t.kind }

-- the token of a text that a mark denotes
abbrev pub lexeme_of : List ℕ → Mark → Lexeme
lexeme_of text m = record { kind = m.kind; text = take m.len (drop m.at text); at = m.at; place = place_at text m.at }

-- the mark is of bytes of this text, and has their line
pub record IsMark (text : List ℕ) (m : Mark) : Type 0 where
  pub within : m.at + m.len ≤ length text
  pub line_is : m.line ≡ (place_at text m.at).line

-- marks of a text, and the position of an offset in it
pub record IsWalk (text : List ℕ) (marks : List Mark) (at : ℕ) (place : Place) : Type 0 where
  pub are : All (IsMark text) marks
  pub stands : place ≡ place_at text at
