use Rattle.ir_lexer.proofs.Common.{◌+◌, ℕ, List, arith, ap, sym, take, refl, ◌∙◌, place_behind, place_at, bytes_before}
use Rattle.std.specs.Prelude.{count_by}
use Rattle.text_places.specs.Place.{is_line_feed}
use Rattle.ir_lexer.proofs.Places.{moved, line_fits, column_fits, skipped, feeds-fit}
use Rattle.ir_lexer.proofs.cursor.Cursor.skip.Goals as goal

pub overflow_add-line : goal.overflow_add-line
overflow_add-line c =
    omega (arith, feeds-fit c.self.inside.text.now c.self.inside.rest.now c.split_at.result.0.now c.self.inside.place c.line_feeds.result (omega (arith, c.split_at.ensures.front_len, c.split_at.ensures.back_len)) (omega arith) c.line_feeds.ensures c.self.invariant.stands)

pub blanks-passed-requires-clause-line : goal.blanks-passed-requires-clause-line
blanks-passed-requires-clause-line c =
    line_fits c.self.inside.text.now c.split_at.result.1.now c.split_at.result.1.now _ (omega arith) (omega arith)
    (skipped c.self.inside.text.now c.self.inside.rest.now c.split_at.result.1.now c.self.inside.place c.args.len _ _ (omega (arith, c.split_at.ensures.front_len, c.split_at.ensures.back_len)) c.split_at.ensures.back
    (ap (λ (n : ℕ). c.self.inside.place.line + n) (c.line_feeds.ensures ∙ ap (count_by is_line_feed) c.split_at.ensures.front))
    (c.column_behind-column.ensures ∙ ap (λ (xs : List ℕ). (place_behind xs).column) c.split_at-2.ensures.front
    ∙ ap (λ (n : ℕ). (place_at c.self.inside.text.now (n + c.args.len)).column) (c.offset.ensures.value ∙ ap bytes_before (sym c.self.view_is)))
    c.self.invariant.stands)

pub blanks-passed-requires-clause-column : goal.blanks-passed-requires-clause-column
blanks-passed-requires-clause-column c =
    column_fits c.self.inside.text.now c.split_at.result.1.now c.split_at.result.1.now _ (omega arith) (omega arith)
    (skipped c.self.inside.text.now c.self.inside.rest.now c.split_at.result.1.now c.self.inside.place c.args.len _ _ (omega (arith, c.split_at.ensures.front_len, c.split_at.ensures.back_len)) c.split_at.ensures.back
    (ap (λ (n : ℕ). c.self.inside.place.line + n) (c.line_feeds.ensures ∙ ap (count_by is_line_feed) c.split_at.ensures.front))
    (c.column_behind-column.ensures ∙ ap (λ (xs : List ℕ). (place_behind xs).column) c.split_at-2.ensures.front
    ∙ ap (λ (n : ℕ). (place_at c.self.inside.text.now (n + c.args.len)).column) (c.offset.ensures.value ∙ ap bytes_before (sym c.self.view_is)))
    c.self.invariant.stands)

pub invariant_of-result : goal.invariant_of-result
invariant_of-result c = record {
  stands = moved c.self.inside.text.now c.split_at.result.1.now (take c.blanks-passed.result.len c.split_at.result.1.now) c.split_at-3.result.1.now c.blanks-passed.result.len _ c.blanks-passed.result.place
      refl c.split_at-3.ensures.back c.blanks-passed.ensures.place
      (skipped c.self.inside.text.now c.self.inside.rest.now c.split_at.result.1.now c.self.inside.place c.args.len _ _ (omega (arith, c.split_at.ensures.front_len, c.split_at.ensures.back_len)) c.split_at.ensures.back
      (ap (λ (n : ℕ). c.self.inside.place.line + n) (c.line_feeds.ensures ∙ ap (count_by is_line_feed) c.split_at.ensures.front))
      (c.column_behind-column.ensures ∙ ap (λ (xs : List ℕ). (place_behind xs).column) c.split_at-2.ensures.front
      ∙ ap (λ (n : ℕ). (place_at c.self.inside.text.now (n + c.args.len)).column) (c.offset.ensures.value ∙ ap bytes_before (sym c.self.view_is)))
      c.self.invariant.stands);
  known = λ h. absurd (omega arith);
}
