use Rattle.ir_items.proofs.Common.{◌≡◌, ℕ, sym, subst, ◌∙◌, arith, err_from_is_err_and, GoesOn, StopsAt}
use Rattle.ir_items.proofs.Opening.{piece_balanced, balanced_fits}
use Rattle.ir_items.proofs.HeadTokens.{head_balanced}
use Rattle.ir_items.proofs.Phases.{name_piece, name_fault, define_ends}
use Rattle.ir_items.proofs.cutting.name_place.Goals as goal

pub loop-place-init : goal.loop-place-init
loop-place-init c = record {
  goes_on = record {
    word = c.requires.define;
    some = omega arith;
    within = omega arith;
    no_head = λ m lo hi bal. absurd (omega arith);
    no_name = λ m lo hi bal. absurd (omega arith);
  };
  balanced = head_balanced c.args.tokens.now c.args.first c.requires.head;
}

pub returns-then-begins_item-clause-stops : goal.returns-then-begins_item-clause-stops
returns-then-begins_item-clause-stops c =
    λ defines few. StopsAt.no_body c.requires.define
    (GoesOn.before_name few c.loop-place.invariant.goes_on (balanced_fits c.args.tokens.now c.args.first c.loop-place.place c.loop-place.invariant.balanced))
    c.loop-place.invariant.balanced (sym c.begins_item.ensures ∙ c.if-begins_item.true)

pub returns-in_err-place-clause-stops : goal.returns-in_err-place-clause-stops
returns-in_err-place-clause-stops c =
    let p = err_from_is_err_and c.from_residual.result c.from_residual.ensures.1 in
    rw (p.1, p.2) (λ defines few. name_fault c.args.tokens.now defines c.args.first c.loop-place.place _ few c.loop-place.invariant.balanced (sym c.begins_item.ensures ∙ c.if-begins_item.false) (sym c.is_called.ensures ∙ c.if-is_called.false)
    c.loop-place.invariant.goes_on (omega arith) c.in_err-place.ensures.stops)

pub loop-place-preserved : goal.loop-place-preserved
loop-place-preserved c = record {
  goes_on = name_piece c.args.tokens.now c.args.first c.loop-place.place c.in_ok-place.place c.loop-place.invariant.balanced (sym c.begins_item.ensures ∙ c.if-begins_item.false) (sym c.is_called.ensures ∙ c.if-is_called.false)
      c.in_ok-place.ensures.ok c.loop-place.invariant.goes_on;
  balanced = piece_balanced c.args.tokens.now c.args.first c.loop-place.place c.in_ok-place.place (omega (arith, c.loop-place.invariant.goes_on.some)) c.loop-place.invariant.balanced c.in_ok-place.ensures.ok;
}

pub returns-clause-stops : goal.returns-clause-stops
returns-clause-stops c =
    let at_end : c.loop-place.place ≡ c.len-end.result = omega (arith, c.loop-place-test.false, c.loop-place.invariant.goes_on.within) in
    λ defines few. define_ends c.args.tokens.now defines c.args.first c.len-end.result c.len-end.ensures c.requires.define
    (subst (λ (p : ℕ). GoesOn c.args.tokens.now defines c.args.first p) at_end
    (GoesOn.before_name few c.loop-place.invariant.goes_on (balanced_fits c.args.tokens.now c.args.first c.loop-place.place c.loop-place.invariant.balanced)))
