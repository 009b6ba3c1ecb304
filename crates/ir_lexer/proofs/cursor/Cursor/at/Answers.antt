use Rattle.ir_lexer.proofs.Common.{arith, ◌∙◌, ap, List, ℕ, place_behind}
use Rattle.ir_lexer.proofs.Places.{here-at}
use Rattle.ir_lexer.proofs.cursor.Cursor.at.Goals as goal

pub invariant_of-result : goal.invariant_of-result
invariant_of-result c = record {
  stands = here-at c.args.text.now c.split_at.result.1.now c.args.at c.args.line c.column_behind-column.result c.split_at.ensures.back c.requires.line
      (c.column_behind-column.ensures ∙ ap (λ (xs : List ℕ). (place_behind xs).column) c.split_at.ensures.front);
  known = λ h. absurd (omega arith);
}
