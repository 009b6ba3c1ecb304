-- The tokens of a part of a text, those of the part after it, and those of the whole text.
use Rattle.ir_lexer.proofs.Common.{◌≡◌, ℕ, List, ◌++◌, length, Ok, sym, ap, ◌∙◌, arith, append-nil, Lexeme, start_of, tokens_left, lexed, with_front}
use Rattle.ir_lexer.specs.Part.{AreBetween, position}
use Rattle.ir_lexer.proofs.Left.{front-front, none-left}
use Rattle.ir_lexer.proofs.Next.{left-nil, left-start}

-- the tokens of a part, and those of the part after it
pub between-join : (text : List ℕ) (from middle after : ℕ) (front back : List Lexeme) → AreBetween text from middle front → AreBetween text middle after back → AreBetween text from after (front ++ back)
between-join text from middle after front back a b = record {
  whole = sym (front-front front back (tokens_left (position text after))) ∙ ap (with_front front) b.whole ∙ a.whole;
  within = b.within;
}

-- from the first token to the end of the text
pub between-all : (text : List ℕ) (from : ℕ) (tokens : List Lexeme) → position text from ≡ start_of text → AreBetween text from (length text) tokens → lexed text ≡ Ok tokens
between-all text from tokens is all =
    let none = left-nil (position text (length text)) (none-left (start_of text) (length text) (omega arith)) in
    sym (left-start text) ∙ ap tokens_left (sym is) ∙ sym all.whole ∙ ap (with_front tokens) none ∙ ap (λ (xs : List Lexeme). Ok xs) (append-nil tokens)
