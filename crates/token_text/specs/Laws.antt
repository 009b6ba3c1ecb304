-- What holds of each text that is made of tokens.
use Rattle.std.specs.Prelude.{◌≡◌, ℕ, List, ◌++◌, map, true, Ok}
use Rattle.std.specs.List.{list_all}
use Rattle.ir_lexer.specs.Bytes.{is_blank}
use Rattle.ir_lexer.specs.Lexeme.{Lexeme}
use Rattle.ir_lexer.specs.Tokens.{lexed}
use Rattle.ir_lexer.specs.declared.token.Kind.{Kind}
use Rattle.token_text.specs.Pieces.{Piece, text_of, AreApart}

-- a token's class and bytes, without its position
abbrev pub spelled : Lexeme → Kind × List ℕ
spelled t = (t.kind, t.text)

-- the tokens of the text are these, in order
pub record LexesTo (text : List ℕ) (pieces : List Piece) : Type 0 where
  pub tokens : List Lexeme
  pub lexed_so : lexed text ≡ Ok tokens
  pub same : map spelled tokens ≡ map (λ (p : Piece). (p.kind, p.text)) pieces

-- tokens that stay apart, with blanks after the last one, are the tokens of their text
abbrev pub TextsAreLexed : Type 0
TextsAreLexed = (pieces : List Piece) (last : List ℕ) → list_all is_blank last ≡ true → AreApart pieces last → LexesTo (text_of pieces ++ last) pieces
