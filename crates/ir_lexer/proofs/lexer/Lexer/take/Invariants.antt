use Rattle.ir_lexer.proofs.Common.{◌≡◌, ◌-◌, ◌≤◌, List, Ok, length, Lexeme}
use Rattle.ir_lexer.proofs.Taking.{IsPart}
use Rattle.ir_lexer.proofs.lexer.Lexer.take.Given as goal

abbrev pub invariant-loop-self : goal.invariant-loop-self
invariant-loop-self l = record {
  within : length l.part.items ≤ l.count;
  so_far : (tokens : List Lexeme) → l.fn.self ≡ Ok tokens → IsPart tokens l.part.items (length l.part.items) l.self;
}

abbrev pub decreases-loop-self : goal.decreases-loop-self
decreases-loop-self l = l.count - length l.part.items
