-- Text as tokens with blanks before them.
use Rattle.std.specs.Prelude.{◌≡◌, ℕ, List, [], ◌∷◌, ◌++◌, Bool, true, false, ◌||◌, ◌==◌, Some}
use Rattle.std.specs.List.{flat_map, list_all}
use Rattle.ir_lexer.specs.Bytes.{is_blank}
use Rattle.ir_lexer.specs.Spelling.{class_of}
use Rattle.ir_lexer.specs.declared.token.Kind.{Kind}
use Rattle.ir_lexer.specs.declared.token.Kind.TheVariants as kind

-- a token: the blanks before it, its class, and its bytes
pub record Piece : Type 0 where
  pub gap : List ℕ
  pub kind : Kind
  pub text : List ℕ

abbrev pub piece_text : Piece → List ℕ
piece_text p = p.gap ++ p.text

-- tokens one after another, each after its blanks
abbrev pub text_of : List Piece → List ℕ
text_of pieces = flat_map piece_text pieces

-- ---- where tokens stay apart

-- one of ( ) [ ] { } , =
abbrev pub is_separator : ℕ → Bool
is_separator b = b == 40 || b == 41 || b == 91 || b == 93 || b == 123 || b == 125 || b == 44 || b == 61

-- these bytes begin with one that no word, number, name or label goes on with
abbrev pub ends_token : List ℕ → Bool
ends_token [] = true
ends_token (b ∷ bs) = is_blank b || is_separator b

-- a mark of one byte that begins no longer token
abbrev pub is_separator_alone : List ℕ → Bool
is_separator_alone (b ∷ []) = is_separator b
is_separator_alone _ = false

-- the token ends where these bytes follow
abbrev pub is_ended : Kind → List ℕ → List ℕ → Bool
is_ended kind.Mark text rest = is_separator_alone text
is_ended kind.Word text rest = ends_token rest
is_ended kind.Number text rest = ends_token rest
is_ended kind.Local text rest = ends_token rest
is_ended kind.Global text rest = ends_token rest
is_ended kind.Label text rest = ends_token rest
is_ended _ text rest = false

-- blanks, then one token of its class, which ends where the rest begins
pub record IsApart (p : Piece) (rest : List ℕ) : Type 0 where
  pub blanks : list_all is_blank p.gap ≡ true
  pub class : class_of p.text ≡ Some p.kind
  pub ended : is_ended p.kind p.text rest ≡ true

-- each token ends where the next one begins, or these last bytes
abbrev pub AreApart : List Piece → List ℕ → Type 0
AreApart [] last = Unit {0}
AreApart (p ∷ pieces) last = IsApart p (text_of pieces ++ last) × AreApart pieces last
