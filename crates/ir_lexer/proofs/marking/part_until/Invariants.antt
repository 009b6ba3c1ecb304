use Rattle.ir_lexer.proofs.Common.{length}
use Rattle.ir_lexer.specs.Part.{IsPart}
use Rattle.ir_lexer.proofs.marking.part_until.Given as goal

abbrev pub invariant-loop-cursor : goal.invariant-loop-cursor
invariant-loop-cursor l = IsPart l.fn.start l.marks.items l.cursor

abbrev pub decreases-loop-cursor : goal.decreases-loop-cursor
decreases-loop-cursor l = length l.cursor.rest
