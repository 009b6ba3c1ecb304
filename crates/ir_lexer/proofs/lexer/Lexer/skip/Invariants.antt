use Rattle.ir_lexer.proofs.Common.{◌≡◌, List, take, Lexeme, Ok}
use Rattle.ir_lexer.proofs.Taking.{IsPart}
use Rattle.ir_lexer.proofs.lexer.Lexer.skip.Given as goal

abbrev pub invariant-loop : goal.invariant-loop
invariant-loop l = (tokens : List Lexeme) → l.fn.self ≡ Ok tokens → IsPart tokens (take l.counter tokens) l.counter l.self
