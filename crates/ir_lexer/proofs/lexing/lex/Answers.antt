use Rattle.ir_lexer.proofs.Common.{◌≤◌, ◌∙◌, List, ℕ, Ok, Result, length, map, ap, sym, subst, arith, Lexeme, Fails, Position, Spot, lexeme_of, tokens_left}
use Rattle.std.proofs.lemmas.Result.{err_from_is_err_and}
use Rattle.ir_lexer.proofs.Left.{is_done, none-left}
use Rattle.ir_lexer.specs.Position.{behind}
use Rattle.ir_lexer.proofs.Next.{left-start}
use Rattle.ir_lexer.proofs.lexing.lex.Goals as goal

pub returns-in_err-part : goal.returns-in_err-part
returns-in_err-part c =
    let p = err_from_is_err_and c.from_residual.result c.from_residual.ensures.1 in
    rw (p.1, p.2) (subst (λ (r : Result (List Lexeme) Spot). Fails c.in_err-part.field-0.0 r) (ap tokens_left c.new.ensures ∙ left-start c.args.text.now) c.in_err-part.ensures)

pub returns : goal.returns
returns c =
    let part = c.in_ok-part.ensures.0 in
    let text = ap (λ (p : Position). p.text) c.new.ensures in
    let end : length c.new.result.text ≤ c.in_ok-part.part.after = omega (arith, ap length text, c.in_ok-part.ensures.1) in
    sym (ap tokens_left c.new.ensures ∙ left-start c.args.text.now)
    ∙ is_done c.new.result (behind c.new.result c.in_ok-part.part.after) c.in_ok-part.part.marks.items (none-left c.new.result c.in_ok-part.part.after end) part
    ∙ ap (λ (xs : List ℕ). Ok (map (lexeme_of xs) c.in_ok-part.part.marks.items)) text ∙ ap (λ (ts : List Lexeme). Ok ts) (sym c.new-2.ensures)
