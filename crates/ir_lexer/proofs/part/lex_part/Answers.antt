use Rattle.ir_lexer.proofs.Common.{◌≤◌, ◌∙◌, List, ap, subst, length, Lexeme, Position, tokens_left, with_front}
use Rattle.ir_lexer.specs.Part.{IsPart, position}
use Rattle.ir_lexer.specs.Position.{behind}
use Rattle.ir_lexer.proofs.part.lex_part.Goals as goal

pub returns-clause-part : goal.returns-clause-part
returns-clause-part c =
    let text = c.args.text.now in
    let after = c.in_ok-marks.field-0.after in
    let marks = c.in_ok-marks.field-0.marks.items in
    let part : IsPart (position text c.args.start.at) marks (position text after) =
    subst (λ (p : Position). IsPart p marks (behind p after)) c.at-cursor.ensures c.in_ok-marks.ensures.0 in
    record {
      whole = ap (λ (ts : List Lexeme). with_front ts (tokens_left (position text after))) c.new-tokens.ensures ∙ part.whole;
      within = subst (λ (p : Position). after ≤ length p.text) c.at-cursor.ensures c.in_ok-marks.ensures.2;
    }
