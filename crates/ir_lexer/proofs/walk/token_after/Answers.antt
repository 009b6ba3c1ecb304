use Rattle.ir_lexer.proofs.Common.{◌≡◌, ◌∙◌, ◌+◌, ◌-◌, ℕ, List, take, drop, arith, sym, ap, length-take, column-within, Place, place_behind, place_at}
use Rattle.ir_lexer.proofs.Lines.{column-on, place-is}
use Rattle.ir_lexer.proofs.Next.{lexeme_is}
use Rattle.ir_lexer.proofs.walk.token_after.Goals as goal
use Rattle.ir_lexer.proofs.walk.token_after.Goals.{then-line-place+then-at-start, else-line-place}

pub overflow_add-column : goal.overflow_add-column
overflow_add-column c =
    let column : c.args.place.column ≡ (place_at c.args.text.now c.args.at).column = ap (λ (p : Place). p.column) c.requires.place in
    omega (arith, column, column-within (take c.args.at c.args.text.now), length-take c.args.at c.args.text.now, c.requires.mark.within, c.if-at-start.true)

pub returns : goal.returns
returns c =
    let text = c.args.text.now in
    let column : c.if-line-place.column ≡ (place_at text c.args.mark.at).column =
    elim c.if-line-place.branch [
      | then-line-place+then-at-start w ↦
          let line : (place_at text c.args.at).line ≡ (place_at text c.args.mark.at).line = ap (λ (p : Place). p.line) (sym c.requires.place) ∙ sym w.if-line-place.true ∙ c.requires.mark.line_is in
          w.column-is ∙ ap (λ (p : Place). p.column + (c.args.mark.at - c.args.at)) c.requires.place ∙ sym (column-on text c.args.at c.args.mark.at w.if-at-start.true (omega (arith, c.requires.mark.within)) line)
      | else-line-place w ↦ w.column-is ∙ w.column_behind-column.ensures ∙ ap (λ (xs : List ℕ). (place_behind xs).column) c.split_at.ensures.front
    ] in
    sym (lexeme_is c.new.result c.args.mark.kind (take c.args.mark.len (drop c.args.mark.at text)) c.args.mark.at (place_at text c.args.mark.at)
    c.new.ensures.kind (c.new.ensures.text ∙ c.split_at-2.ensures.front ∙ ap (take c.args.mark.len) c.split_at.ensures.back) c.new.ensures.at
    (c.new.ensures.place ∙ place-is (place_at text c.args.mark.at) c.args.mark.line c.if-line-place.column c.requires.mark.line_is column))
