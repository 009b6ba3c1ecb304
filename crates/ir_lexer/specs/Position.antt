-- A position in a text, before a token or at the end, and reading the token there.
use Rattle.std.specs.Prelude.{◌≡◌, ◌<◌, ℕ, ◌-◌, List, [], ◌++◌, length, take, drop, Option, Some, None, Result, Ok, Err, false}
use Rattle.text_places.specs.declared.place.Place.{Place}
use Rattle.text_places.specs.Place.{place_behind, place_at}
use Rattle.ir_lexer.specs.declared.lexing.LexFault.{LexFault}
use Rattle.ir_lexer.specs.declared.lexing.LexFault.TheVariants.{NoToken, NoMemory}
use Rattle.ir_lexer.specs.Lexeme.{Lexeme}
use Rattle.ir_lexer.specs.Scan.{name_run}
use Rattle.ir_lexer.specs.Tokens.{longest_token, behind_blanks, Spot, tokens_of}

-- a text, and what is left of it
pub record Position : Type 0 where
  pub text : List ℕ
  pub rest : List ℕ

-- before the first token of a text
abbrev pub start_of : List ℕ → Position
start_of text = record { text = text; rest = behind_blanks false text }

-- the number of bytes before a position
abbrev pub bytes_before : Position → ℕ
bytes_before p = length p.text - length p.rest

-- the position of an offset
abbrev pub behind : Position → ℕ → Position
behind p at = record { text = p.text; rest = drop at p.text }

-- what is left is the end of the text
abbrev pub IsWithin : Position → Type 0
IsWithin p = drop (bytes_before p) p.text ≡ p.rest

-- the tokens from a position on, or where none begins
abbrev pub tokens_left : Position → Result (List Lexeme) Spot
tokens_left p = tokens_of p.text (length p.rest) p.rest

-- what is left of a text, and the line and column where it begins
pub record Here (text rest : List ℕ) (place : Place) : Type 0 where
  pub before : List ℕ
  pub split : text ≡ before ++ rest
  pub is : place ≡ place_behind before

-- what a cursor keeps: its position, and the leading run of name bytes where that is known
pub record IsCursor (text rest : List ℕ) (place : Place) (run : ℕ) : Type 0 where
  pub stands : Here text rest place
  pub known : 0 < run → run ≡ name_run rest

-- this token begins at old, and new is the position after it and the blanks that follow
pub record IsToken (old : Position) (t : Lexeme) (new : Position) : Type 0 where
  pub len : ℕ
  pub found : longest_token old.rest ≡ Some (t.kind, len)
  pub text : t.text ≡ take len old.rest
  pub at : t.at ≡ bytes_before old
  pub place : t.place ≡ place_at old.text (bytes_before old)
  pub after : new ≡ record { text = old.text; rest = behind_blanks false (drop len old.rest) }

-- no token begins there
abbrev pub IsStop : Position → LexFault → Type 0
IsStop p (NoToken at place) =
    (0 < length p.rest) × (longest_token p.rest ≡ None) × (at ≡ bytes_before p)
    × (place ≡ place_at p.text (bytes_before p))
IsStop p NoMemory = ⊥

-- reading at old returns this and leads to new
abbrev pub Reads : Position → Result (Option Lexeme) LexFault → Position → Type 0
Reads old (Ok None) new = (old.rest ≡ []) × (new ≡ old)
Reads old (Ok (Some t)) new = IsToken old t new
Reads old (Err fault) new = IsStop old fault × (new ≡ old)
