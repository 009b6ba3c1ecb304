use Rattle.ir_reader.proofs.Common.{◌-◌}
use Rattle.ir_lexer.specs.Part.{IsStart}
use Rattle.ir_reader.specs.Beside.{IsSpan}
use Rattle.ir_reader.proofs.beside.span_of.Given as goal

abbrev pub invariant-loop-pieces : goal.invariant-loop-pieces
invariant-loop-pieces l = IsStart l.text l.pieces.last × IsSpan l.text l.fn.start.at l.pieces.span

abbrev pub decreases-loop-pieces : goal.decreases-loop-pieces
decreases-loop-pieces l = l.end - l.pieces.span.after
