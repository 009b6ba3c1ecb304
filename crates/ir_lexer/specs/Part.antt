-- The tokens of a part of a text.
use Rattle.std.specs.Prelude.{◌≡◌, ◌≤◌, ℕ, List, length, drop, map, false, Result, Ok, Err}
use Rattle.std.specs.List.{All}
use Rattle.text_places.specs.Place.{place_at}
use Rattle.ir_lexer.specs.declared.lexing.LexFault.{LexFault}
use Rattle.ir_lexer.specs.declared.mark.Mark.{Mark}
use Rattle.ir_lexer.specs.declared.marking.Marking.{Marking}
use Rattle.ir_lexer.specs.declared.part.Start.{Start}
use Rattle.ir_lexer.specs.Answer.{Fails}
use Rattle.ir_lexer.specs.Lexeme.{Lexeme}
use Rattle.ir_lexer.specs.Marks.{IsMark, lexeme_of}
use Rattle.ir_lexer.specs.Position.{Position, behind, tokens_left}
use Rattle.ir_lexer.specs.Tokens.{behind_blanks, with_front}

-- the position of an offset of a text
abbrev pub position : List ℕ → ℕ → Position
position text at = record { text = text; rest = drop at text }

-- the position of an offset, and past the blanks there
abbrev pub later : List ℕ → ℕ → Position
later text at = record { text = text; rest = behind_blanks false (drop at text) }

-- the offset is in the text, and on this line
abbrev pub IsStart : List ℕ → Start → Type 0
IsStart text start = (start.at ≤ length text) × (start.line ≡ (place_at text start.at).line)

-- these are the tokens of a text from an offset up to another, before what is found after that
pub record AreBetween (text : List ℕ) (from after : ℕ) (tokens : List Lexeme) : Type 0 where
  pub whole : with_front tokens (tokens_left (position text after)) ≡ tokens_left (position text from)
  pub within : after ≤ length text

-- the marks are of the tokens from start up to after
pub record IsPart (start : Position) (marks : List Mark) (after : Position) : Type 0 where
  pub same : after.text ≡ start.text
  pub each : All (IsMark start.text) marks
  pub whole : with_front (map (lexeme_of start.text) marks) (tokens_left after) ≡ tokens_left start

-- what is found from start on: all tokens that begin before this offset of the text, or where none begins
abbrev pub Finds : Position → ℕ → Result Marking LexFault → Type 0
Finds start end (Ok part) =
    IsPart start part.marks.items (behind start part.after) × (end ≤ part.after)
    × (part.after ≤ length start.text)
Finds start end (Err fault) = Fails fault (tokens_left start)
