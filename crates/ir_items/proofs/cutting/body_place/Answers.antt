use Rattle.ir_items.proofs.Common.{◌≡◌, ℕ, sym, subst, ◌∙◌, arith, err_from_is_err_and, IsBalanced, BeforeBody, GoesOn, StopsAt}
use Rattle.ir_items.proofs.Opening.{piece_balanced, balanced_fits}
use Rattle.ir_items.proofs.Phases.{body_piece, body_fault, define_ends}
use Rattle.ir_items.proofs.cutting.body_place.Goals as goal

pub returns-then-begins_item-clause-stops : goal.returns-then-begins_item-clause-stops
returns-then-begins_item-clause-stops c = λ defines first name new h b.
    let i : BeforeBody c.args.tokens.now first name c.loop-place.place × IsBalanced c.args.tokens.now first c.loop-place.place = c.loop-place.invariant first name h b in
    StopsAt.no_body i.0.named.before.word (GoesOn.before_body new i.0 (balanced_fits c.args.tokens.now first c.loop-place.place i.1)) i.1 (sym c.begins_item.ensures ∙ c.if-begins_item.true)

pub returns-in_err-place-clause-stops : goal.returns-in_err-place-clause-stops
returns-in_err-place-clause-stops c =
    let p = err_from_is_err_and c.from_residual.result c.from_residual.ensures.1 in
    rw (p.1, p.2) (λ defines first name new h b. let i : BeforeBody c.args.tokens.now first name c.loop-place.place × IsBalanced c.args.tokens.now first c.loop-place.place = c.loop-place.invariant first name h b in
    body_fault c.args.tokens.now defines first name c.loop-place.place _ new i.1 (sym c.begins_item.ensures ∙ c.if-begins_item.false) (sym c.is_brace.ensures ∙ c.if-is_brace.false) i.0 (omega arith) c.in_err-place.ensures.stops)

pub loop-place-preserved : goal.loop-place-preserved
loop-place-preserved c = λ first name h b.
    let i : BeforeBody c.args.tokens.now first name c.loop-place.place × IsBalanced c.args.tokens.now first c.loop-place.place = c.loop-place.invariant first name h b in (
      body_piece c.args.tokens.now first name c.loop-place.place c.in_ok-place.place i.1 (sym c.begins_item.ensures ∙ c.if-begins_item.false) (sym c.is_brace.ensures ∙ c.if-is_brace.false) c.in_ok-place.ensures.ok i.0,
      piece_balanced c.args.tokens.now first c.loop-place.place c.in_ok-place.place (omega (arith, i.0.named.before.some, i.0.parameters.some, i.0.behind)) i.1 c.in_ok-place.ensures.ok,
    )

pub returns-clause-stops : goal.returns-clause-stops
returns-clause-stops c = λ defines first name new h b.
    let i : BeforeBody c.args.tokens.now first name c.loop-place.place × IsBalanced c.args.tokens.now first c.loop-place.place = c.loop-place.invariant first name h b in
    let at_end : c.loop-place.place ≡ c.len-end.result = omega (arith, c.loop-place-test.false, i.0.within) in
    define_ends c.args.tokens.now defines first c.len-end.result c.len-end.ensures i.0.named.before.word
    (subst (λ (p : ℕ). GoesOn c.args.tokens.now defines first p) at_end (GoesOn.before_body new i.0 (balanced_fits c.args.tokens.now first c.loop-place.place i.1)))

pub returns-then-is_brace-clause-ok : goal.returns-then-is_brace-clause-ok
returns-then-is_brace-clause-ok c = λ first name h b.
    let i : BeforeBody c.args.tokens.now first name c.loop-place.place × IsBalanced c.args.tokens.now first c.loop-place.place = c.loop-place.invariant first name h b in
    record { before = i.0; balanced = i.1; brace = sym c.is_brace.ensures ∙ c.if-is_brace.true }
