use Rattle.ir_lexer.proofs.Common.{◌≡◌, ◌-◌, arith, take, drop, false, ap, sym, refl, ◌∙◌, Some, Kind, name_run, behind_blanks, bytes_before}
use Rattle.ir_lexer.proofs.Places.{moved, line_fits, column_fits, here-place, here-drop}
use Rattle.ir_lexer.proofs.Runs.{run_left}
use Rattle.ir_lexer.proofs.cursor.Cursor.next.Goals as goal

pub front_of-requires-clause-line : goal.front_of-requires-clause-line
front_of-requires-clause-line c =
    line_fits c.self.inside.text.now c.self.inside.rest.now c.self.inside.rest.now c.self.inside.place (omega arith) (omega arith) c.self.invariant.stands

pub front_of-requires-clause-column : goal.front_of-requires-clause-column
front_of-requires-clause-column c =
    column_fits c.self.inside.text.now c.self.inside.rest.now c.self.inside.rest.now c.self.inside.place (omega arith) (omega arith) c.self.invariant.stands

pub blanks-passed-requires-clause-line : goal.blanks-passed-requires-clause-line
blanks-passed-requires-clause-line c =
    line_fits c.self.inside.text.now c.split_at.result.1.now c.split_at.result.1.now c.in-Some.front.after (omega arith) (omega arith)
    (moved c.self.inside.text.now c.self.inside.rest.now (take c.in-Some.front.len c.self.inside.rest.now) c.split_at.result.1.now c.in-Some.front.len c.self.inside.place c.in-Some.front.after
    refl c.split_at.ensures.back c.in-Some.ensures.after c.self.invariant.stands)

pub blanks-passed-requires-clause-column : goal.blanks-passed-requires-clause-column
blanks-passed-requires-clause-column c =
    column_fits c.self.inside.text.now c.split_at.result.1.now c.split_at.result.1.now c.in-Some.front.after (omega arith) (omega arith)
    (moved c.self.inside.text.now c.self.inside.rest.now (take c.in-Some.front.len c.self.inside.rest.now) c.split_at.result.1.now c.in-Some.front.len c.self.inside.place c.in-Some.front.after
    refl c.split_at.ensures.back c.in-Some.ensures.after c.self.invariant.stands)

pub invariant_of-self : goal.invariant_of-self
invariant_of-self c = record {
  stands = moved c.self.inside.text.now c.split_at.result.1.now (take c.blanks-passed.result.len c.split_at.result.1.now) c.split_at-2.result.1.now c.blanks-passed.result.len c.in-Some.front.after c.blanks-passed.result.place
      refl c.split_at-2.ensures.back c.blanks-passed.ensures.place
      (moved c.self.inside.text.now c.self.inside.rest.now (take c.in-Some.front.len c.self.inside.rest.now) c.split_at.result.1.now c.in-Some.front.len c.self.inside.place c.in-Some.front.after
      refl c.split_at.ensures.back c.in-Some.ensures.after c.self.invariant.stands);
  known = λ left.
      let is : c.in-Some.front.run ≡ name_run c.self.inside.rest.now - c.in-Some.front.len = c.in-Some.ensures.run left in
      let after : c.split_at-2.result.1.now ≡ behind_blanks false (drop c.in-Some.front.len c.self.inside.rest.now) =
      c.split_at-2.ensures.back ∙ c.blanks-passed.ensures.value ∙ ap (behind_blanks false) c.split_at.ensures.back in
      is ∙ run_left c.in-Some.front.len c.self.inside.rest.now c.split_at-2.result.1.now after (omega (arith, is, left));
}

pub returns-clause-reads : goal.returns-clause-reads
returns-clause-reads c = rw (← c.self.view_is) (record {
  len = c.in-Some.front.len;
  found = c.in-Some.ensures.found ∙ ap (λ (k : Kind). Some (k, c.in-Some.front.len)) (sym c.new-token.ensures.kind);
  text = c.new-token.ensures.text ∙ c.split_at.ensures.front;
  at = c.new-token.ensures.at ∙ c.offset-at.ensures.value ∙ ap bytes_before (sym c.self.view_is);
  place = c.new-token.ensures.place ∙ here-place c.self.inside.text.now c.self.inside.rest.now c.self.inside.place c.self.invariant.stands;
  after = cc;
})

pub returns-clause-within : goal.returns-clause-within
returns-clause-within c = rw (← c.self.view_is) (here-drop c.self.inside.text.now c.self.inside.rest.now c.self.inside.place c.self.invariant.stands)
