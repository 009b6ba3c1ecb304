use Rattle.ir_reader.proofs.Common.{List, into_iter_items, Lexeme, AreDefines}
use Rattle.ir_reader.proofs.Entries.{SoFar}
use Rattle.ir_reader.proofs.reading.entries.Given as goal

abbrev pub invariant-loop-define : goal.invariant-loop-define
invariant-loop-define l =
    (tokens : List Lexeme) × AreDefines l.text tokens l.fn.defines × SoFar tokens l.fn.defines (into_iter_items l.define-iterator) l.done l.lexer l.entries.items
