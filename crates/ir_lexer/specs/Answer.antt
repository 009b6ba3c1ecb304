-- What a lexer may return.
use Rattle.std.specs.Prelude.{◌≡◌, List, [], ◌∷◌, Option, Some, None, Result, Ok, Err}
use Rattle.ir_lexer.specs.declared.lexing.LexFault.{LexFault}
use Rattle.ir_lexer.specs.declared.lexing.LexFault.TheVariants.{NoToken, NoMemory}
use Rattle.ir_lexer.specs.Lexeme.{Lexeme}
use Rattle.ir_lexer.specs.Tokens.{Spot, with_front}

-- the result is this one, unless memory runs out
abbrev pub Fails : LexFault → Result (List Lexeme) Spot → Type 0
Fails NoMemory right = Unit {0}
Fails (NoToken at place) right = right ≡ Err (record { at = at; place = place })

abbrev pub Gives : Result (List Lexeme) LexFault → Result (List Lexeme) Spot → Type 0
Gives (Ok tokens) right = right ≡ Ok tokens
Gives (Err fault) right = Fails fault right

-- this is why no token can be read, where these tokens are left
abbrev pub Stops : Result (List Lexeme) Spot → LexFault → Type 0
Stops left (NoToken at place) = left ≡ Err (record { at = at; place = place })
Stops left NoMemory = ⊥

-- The result is the next of the tokens that were left in old, and new is what is left after it. At
-- the end, and where no token begins, the same is left as before.
abbrev pub IsNext : Result (List Lexeme) Spot → Result (Option Lexeme) LexFault → Result (List Lexeme) Spot → Type 0
IsNext old (Ok None) new = (old ≡ Ok []) × (new ≡ Ok [])
IsNext old (Ok (Some t)) new = old ≡ with_front (t ∷ []) new
IsNext old (Err fault) new = Stops old fault × (new ≡ old)
