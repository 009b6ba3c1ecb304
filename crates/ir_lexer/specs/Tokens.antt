-- The tokens of a text: from the left the longest token each time.
use Rattle.std.specs.Prelude.{ℕ, zero, suc, ◌-◌, List, [], ◌∷◌, ◌++◌, length, take, drop, Option, Some, None, Bool, true, false, ◌==◌, not, Result, Ok, Err, if◌then◌else◌}
use Rattle.text_places.specs.declared.place.Place.{Place}
use Rattle.text_places.specs.Place.{place_at}
use Rattle.ir_lexer.specs.declared.token.Kind.{Kind}
use Rattle.ir_lexer.specs.Bytes.{is_blank}
use Rattle.ir_lexer.specs.Spelling.{class_of}
use Rattle.ir_lexer.specs.Lexeme.{Lexeme}

-- the class of a prefix of n bytes, or else what was found among the shorter ones
abbrev pub or_shorter : Option Kind → ℕ → Option (Kind × ℕ) → Option (Kind × ℕ)
or_shorter (Some kind) n shorter = Some (kind, n)
or_shorter None n shorter = shorter

-- the longest of the prefixes of at most n bytes that is a token, and its length
unfoldable pub longest : ℕ → List ℕ → Option (Kind × ℕ)
longest zero text = None
longest (suc n) text = or_shorter (class_of (take (suc n) text)) (suc n) (longest n text)

abbrev pub longest_token : List ℕ → Option (Kind × ℕ)
longest_token text = longest (length text) text

-- the text after blanks and comments; true inside a comment, which runs to the line feed
abbrev pub behind_blanks : Bool → List ℕ → List ℕ
behind_blanks inside [] = []
behind_blanks true (b ∷ bs) = behind_blanks (not (b == 10)) bs
behind_blanks false (b ∷ bs) = (if is_blank b then behind_blanks false bs else (if b == 59 then behind_blanks true bs else b ∷ bs))

-- where no token begins: the number of bytes before, and the line and column
pub record Spot : Type 0 where
  pub at : ℕ
  pub place : Place

-- these tokens before what is found after them
abbrev pub with_front : List Lexeme → Result (List Lexeme) Spot → Result (List Lexeme) Spot
with_front front (Ok tokens) = Ok (front ++ tokens)
with_front front (Err spot) = Err spot

-- a token found at this offset of the text, where the rest begins, and the tokens after it; or the
-- position, where none was found
abbrev pub with_token : List ℕ → ℕ → List ℕ → Option (Kind × ℕ) → (ℕ → Result (List Lexeme) Spot) → Result (List Lexeme) Spot
with_token text at rest None behind = Err (record { at = at; place = place_at text at })
with_token text at rest (Some found) behind = with_front (record { kind = found.0; text = take found.1 rest; at = at; place = place_at text at } ∷ []) (behind found.1)

-- The tokens of what is left of a text, in at most n steps, or the position where none begins. What
-- is left begins with no blank.
unfoldable pub tokens_of : List ℕ → ℕ → List ℕ → Result (List Lexeme) Spot
tokens_of text zero rest = Ok []
tokens_of text (suc n) [] = Ok []
tokens_of text (suc n) (b ∷ bs) =
    with_token text (length text - length (b ∷ bs)) (b ∷ bs) (longest_token (b ∷ bs)) (λ len. tokens_of text n (behind_blanks false (drop len (b ∷ bs))))

-- the tokens of a text
abbrev pub lexed : List ℕ → Result (List Lexeme) Spot
lexed text = tokens_of text (length text) (behind_blanks false text)
