use Rattle.ir_lexer.proofs.Common.{arith, take, refl}
use Rattle.ir_lexer.proofs.Places.{at_start, moved, line_fits, column_fits}
use Rattle.ir_lexer.proofs.cursor.Cursor.new.Goals as goal

pub blanks-passed-requires-clause-line : goal.blanks-passed-requires-clause-line
blanks-passed-requires-clause-line c =
    line_fits c.args.text.now c.args.text.now c.args.text.now c.start.result (omega arith) (omega arith) (at_start c.args.text.now c.start.result c.start.ensures)

pub blanks-passed-requires-clause-column : goal.blanks-passed-requires-clause-column
blanks-passed-requires-clause-column c =
    column_fits c.args.text.now c.args.text.now c.args.text.now c.start.result (omega arith) (omega arith) (at_start c.args.text.now c.start.result c.start.ensures)

pub invariant_of-result : goal.invariant_of-result
invariant_of-result c = record {
  stands = moved c.args.text.now c.args.text.now (take c.blanks-passed.result.len c.args.text.now) c.split_at.result.1.now c.blanks-passed.result.len c.start.result c.blanks-passed.result.place
      refl c.split_at.ensures.back c.blanks-passed.ensures.place (at_start c.args.text.now c.start.result c.start.ensures);
  known = λ h. absurd (omega arith);
}
