-- Brackets, and where they nest and match.
use Rattle.std.specs.Prelude.{◌≡◌, ℕ, List, [], ◌∷◌, ◌++◌, Bool, true, false, ◌==◌, if◌then◌else◌}
use Rattle.ir_lexer.specs.declared.token.Kind.{Kind}
use Rattle.ir_lexer.specs.declared.token.Kind.TheVariants as kind
use Rattle.ir_lexer.specs.Lexeme.{Lexeme}
use Rattle.token_forms.specs.declared.bracket.Bracket.{Bracket}
use Rattle.token_forms.specs.declared.bracket.Bracket.TheVariants.{Round, Square, Curly}
use Rattle.token_forms.specs.declared.bracket.Nesting.{Nesting}
use Rattle.token_forms.specs.declared.bracket.Nesting.TheVariants.{Opens, Closes, Plain}

-- ( ) [ ] { }
abbrev pub nesting_of_byte : ℕ → Nesting
nesting_of_byte byte =
    if byte == 40 then Opens Round
    else (if byte == 41 then Closes Round
    else (if byte == 91 then Opens Square
    else (if byte == 93 then Closes Square
    else (if byte == 123 then Opens Curly
    else (if byte == 125 then Closes Curly
    else Plain)))))

abbrev pub nesting_in : Kind → List ℕ → Nesting
nesting_in kind.Mark (byte ∷ []) = nesting_of_byte byte
nesting_in _ text = Plain

-- what a token does to the brackets that are open
abbrev pub nesting_of : Lexeme → Nesting
nesting_of t = nesting_in t.kind t.text

abbrev pub is_same : Bracket → Bracket → Bool
is_same Round Round = true
is_same Square Square = true
is_same Curly Curly = true
is_same _ _ = false

-- in these tokens each bracket that opens is closed by one of its kind, and no other is closed
pub data IsBalanced : List Lexeme → Type 0 where
  nothing : IsBalanced []
  plain : {t : Lexeme} {others : List Lexeme} → nesting_of t ≡ Plain → IsBalanced others → IsBalanced (t ∷ others)
  nested : (b : Bracket) (first : Lexeme) (inside : List Lexeme) (last : Lexeme) (behind : List Lexeme) → nesting_of first ≡ Opens b → IsBalanced inside → nesting_of last ≡ Closes b → IsBalanced behind → IsBalanced (first ∷ (inside ++ last ∷ behind))

-- balanced tokens, and then one that closes this bracket
pub record IsClosed (b : Bracket) (tokens rest : List Lexeme) : Type 0 where
  pub inside : List Lexeme
  pub last : Lexeme
  pub split : tokens ≡ inside ++ last ∷ rest
  pub is_balanced : IsBalanced inside
  pub closes : nesting_of last ≡ Closes b

-- these tokens are inside the first bracket and leave it open; the second is the innermost one that
-- is open after them
pub data IsInnermost : Bracket → Bracket → List Lexeme → Type 0 where
  same : {b : Bracket} {inside : List Lexeme} → IsBalanced inside → IsInnermost b b inside
  deeper : {b innermost : Bracket} (c : Bracket) (before : List Lexeme) (first : Lexeme) (inside : List Lexeme) → IsBalanced before → nesting_of first ≡ Opens c → IsInnermost c innermost inside → IsInnermost b innermost (before ++ first ∷ inside)
