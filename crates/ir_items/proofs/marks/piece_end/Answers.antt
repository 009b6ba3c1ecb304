use Rattle.ir_items.proofs.Common.{◌≡◌, ℕ, ◌+◌, ◌<◌, Bool, cond, List, [], length, Some, None, sym, ap, subst, ◌∙◌, arith, eqb-true, common_steps, nil_from_length, marks, marks_after, has_open, IsInside, bracket, text_ends}
use Rattle.std.specs.Vec.{vec_len}
use Rattle.ir_items.proofs.Opening.{at_start, marks_next, inside_more, nonempty_open}
use Rattle.ir_items.proofs.marks.piece_end.Goals as goal

pub loop-place-init : goal.loop-place-init
loop-place-init c = record {
  here = at_start c.args.tokens.now c.args.from ∙ ap (λ (xs : List ℕ). Some xs) (sym c.new-open.ensures.items);
  inside = λ m lo hi. absurd (omega arith);
}

pub returns-then-not-branch-clause-stops : goal.returns-then-not-branch-clause-stops
returns-then-not-branch-clause-stops c =
    let step : marks_after (Some c.loop-place.open.items) c.mark_at.result ≡ None = c.in_ok-fits.ensures ∙ ap (λ (b : Bool). cond b (Some c.fits.new.open.items) None) c.if-not-branch.true in
    bracket (omega arith) c.loop-place.invariant.inside (omega arith)
    (marks_next c.args.tokens.now c.args.from c.loop-place.place c.mark_at.result c.loop-place.open.items None (omega arith) c.mark_at.ensures c.loop-place.invariant.here step)

pub returns-then-is_empty-clause-ok : goal.returns-then-is_empty-clause-ok
returns-then-is_empty-clause-ok c =
    let none_left : length c.fits.new.open.items ≡ 0 = omega (arith, eqb-true (vec_len c.fits.new.open) 0 (sym c.is_empty.ensures ∙ c.if-is_empty.true)) in
    let step : marks_after (Some c.loop-place.open.items) c.mark_at.result ≡ Some [] =
    c.in_ok-fits.ensures ∙ ap (λ (b : Bool). cond b (Some c.fits.new.open.items) None) c.if-not-branch.false ∙ ap (λ (xs : List ℕ). Some xs) (nil_from_length c.fits.new.open.items none_left) in
    record {
      some = omega arith;
      within = omega arith;
      balanced = marks_next c.args.tokens.now c.args.from c.loop-place.place c.mark_at.result c.loop-place.open.items (Some []) (omega arith) c.mark_at.ensures c.loop-place.invariant.here step;
      first = λ m lo hi. c.loop-place.invariant.inside m lo (omega arith);
    }

pub loop-place-preserved : goal.loop-place-preserved
loop-place-preserved c =
    let some_left : 0 < length c.fits.new.open.items = grind (arith, common_steps) in
    let step : marks_after (Some c.loop-place.open.items) c.mark_at.result ≡ Some c.fits.new.open.items = c.in_ok-fits.ensures ∙ ap (λ (b : Bool). cond b (Some c.fits.new.open.items) None) c.if-not-branch.false in
    let next : marks c.args.tokens.now c.args.from (c.loop-place.place + 1) ≡ Some c.fits.new.open.items =
    marks_next c.args.tokens.now c.args.from c.loop-place.place c.mark_at.result c.loop-place.open.items (Some c.fits.new.open.items) (omega arith) c.mark_at.ensures c.loop-place.invariant.here step in
    record {
      here = next;
      inside = inside_more c.args.tokens.now c.args.from c.loop-place.place c.loop-place.invariant.inside (ap has_open next ∙ nonempty_open c.fits.new.open.items some_left);
    }

pub returns-clause-stops : goal.returns-clause-stops
returns-clause-stops c =
    let at_end : c.loop-place.place ≡ c.len-end.result = omega arith in
    text_ends c.len-end.ensures (subst (λ (p : ℕ). IsInside c.args.tokens.now c.args.from p) at_end c.loop-place.invariant.inside)
