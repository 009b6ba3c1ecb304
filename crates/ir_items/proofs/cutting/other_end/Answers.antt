use Rattle.ir_items.proofs.Common.{◌≡◌, false, true, sym, ◌∙◌, arith, err_from_is_err_and, is_wrong_layout, StopsAt}
use Rattle.ir_items.proofs.Opening.{piece_balanced}
use Rattle.ir_items.proofs.HeadTokens.{head_balanced, wrong_layout_goes_on, wrong_layout_within}
use Rattle.ir_items.proofs.Phases.{other_piece, other_fault}
use Rattle.ir_items.proofs.cutting.other_end.Goals as goal

pub overflow_add-result : goal.overflow_add-result
overflow_add-result c = omega (arith, c.len-end.ensures, wrong_layout_within c.args.tokens.now c.args.first (sym c.is_wrong_layout.ensures ∙ c.if-is_wrong_layout.true))

pub returns-then-is_wrong_layout-clause-stops : goal.returns-then-is_wrong_layout-clause-stops
returns-then-is_wrong_layout-clause-stops c =
    let wrong : is_wrong_layout c.args.tokens.now c.args.first ≡ true = sym c.is_wrong_layout.ensures ∙ c.if-is_wrong_layout.true in
    λ defines. StopsAt.layout (wrong_layout_goes_on c.args.tokens.now c.args.first c.requires.head c.requires.other wrong) wrong

pub loop-place-init : goal.loop-place-init
loop-place-init c =
    let right : is_wrong_layout c.args.tokens.now c.args.first ≡ false = sym c.is_wrong_layout.ensures ∙ c.if-is_wrong_layout.false in
    record {
      goes_on = record {
        head = c.requires.head;
        other = c.requires.other;
        some = omega arith;
        within = omega arith;
        no_head = λ m lo hi bal. absurd (omega arith);
        layout = λ e. omega arith;
      };
      balanced = head_balanced c.args.tokens.now c.args.first c.requires.head;
    }

pub returns-in_err-place-clause-stops : goal.returns-in_err-place-clause-stops
returns-in_err-place-clause-stops c =
    let p = err_from_is_err_and c.from_residual.result c.from_residual.ensures.1 in
    let right : is_wrong_layout c.args.tokens.now c.args.first ≡ false = sym c.is_wrong_layout.ensures ∙ c.if-is_wrong_layout.false in
    rw (p.1, p.2) (λ defines. other_fault c.args.tokens.now defines c.args.first c.loop-place.place _ c.loop-place.invariant.balanced (sym c.begins_item.ensures ∙ c.if-not-begins_item.true) right
    c.loop-place.invariant.goes_on (omega arith) c.in_err-place.ensures.stops)

pub loop-place-preserved : goal.loop-place-preserved
loop-place-preserved c =
    let right : is_wrong_layout c.args.tokens.now c.args.first ≡ false = sym c.is_wrong_layout.ensures ∙ c.if-is_wrong_layout.false in
    record {
      goes_on = other_piece c.args.tokens.now c.args.first c.loop-place.place c.in_ok-place.place c.loop-place.invariant.balanced (sym c.begins_item.ensures ∙ c.if-not-begins_item.true)
          (λ e. let bad : false ≡ true = sym right ∙ e in absurd (cc)) c.in_ok-place.ensures.ok c.loop-place.invariant.goes_on;
      balanced = piece_balanced c.args.tokens.now c.args.first c.loop-place.place c.in_ok-place.place (omega (arith, c.loop-place.invariant.goes_on.some)) c.loop-place.invariant.balanced c.in_ok-place.ensures.ok;
    }
