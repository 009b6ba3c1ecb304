use Rattle.ir_items.proofs.Common.{◌≡◌, true, false, sym, ap, ◌∙◌, arith, is_some, position, list_any, common_steps, err_from_is_err_and, StopsAt}
use Rattle.ir_tree.specs.Names.{same_name}
use Rattle.ir_items.proofs.HeadTokens.{called_opens, called_name, found_some}
use Rattle.ir_items.proofs.cutting.define.Goals as goal

pub returns-then-len-eq-MOST_FUNCTIONS-clause-stops : goal.returns-then-len-eq-MOST_FUNCTIONS-clause-stops
returns-then-len-eq-MOST_FUNCTIONS-clause-stops c = StopsAt.too_many c.requires.define (grind (arith, common_steps))

pub returns-in_err-place-clause-stops : goal.returns-in_err-place-clause-stops
returns-in_err-place-clause-stops c =
    let p = err_from_is_err_and c.from_residual.result c.from_residual.ensures.1 in
    rw (p.1, p.2) (c.in_err-place.ensures.stops c.args.defines.now.items (grind (arith, common_steps)))

pub text-text-requires : goal.text-text-requires
text-text-requires c = omega (arith, (called_opens c.args.tokens.now c.in_ok-place.place c.in_ok-place.ensures.ok.called).0)

pub returns-then-is_some-clause-stops : goal.returns-then-is_some-clause-stops
returns-then-is_some-clause-stops c =
    let here : is_some (position (same_name c.in_ok-name.name) c.args.names.now) ≡ true = ap is_some (sym c.find.ensures.value) ∙ sym c.is_some.ensures ∙ c.if-is_some.true in
    StopsAt.name_twice (grind (arith, common_steps)) c.in_ok-place.ensures.ok
    (called_name c.args.tokens.now c.in_ok-place.place c.text-text.result.now c.in_ok-name.name c.in_ok-place.ensures.ok.called c.text-text.ensures c.in_ok-name.ensures)
    (ap (list_any (same_name c.in_ok-name.name)) (sym c.requires.names) ∙ sym (found_some (same_name c.in_ok-name.name) c.args.names.now) ∙ here)

pub define_end-requires : goal.define_end-requires
define_end-requires c = (called_opens c.args.tokens.now c.in_ok-place.place c.in_ok-place.ensures.ok.called).0

pub returns-in_err-end-clause-stops : goal.returns-in_err-end-clause-stops
returns-in_err-end-clause-stops c =
    let p = err_from_is_err_and c.from_residual-in_err-end.result c.from_residual-in_err-end.ensures.1 in
    let absent : is_some (position (same_name c.in_ok-name.name) c.args.names.now) ≡ false = ap is_some (sym c.find.ensures.value) ∙ sym c.is_some.ensures ∙ c.if-is_some.false in
    rw (p.1, p.2) (c.in_err-end.ensures.stops c.args.defines.now.items c.args.first (record {
      few = grind (arith, common_steps);
      named = c.in_ok-place.ensures.ok;
      name = c.in_ok-name.name;
      spelled = called_name c.args.tokens.now c.in_ok-place.place c.text-text.result.now c.in_ok-name.name c.in_ok-place.ensures.ok.called c.text-text.ensures c.in_ok-name.ensures;
      fresh = ap (list_any (same_name c.in_ok-name.name)) (sym c.requires.names) ∙ sym (found_some (same_name c.in_ok-name.name) c.args.names.now) ∙ absent;
    }))

pub returns-clause-ok : goal.returns-clause-ok
returns-clause-ok c =
    let absent : is_some (position (same_name c.in_ok-name.name) c.args.names.now) ≡ false = ap is_some (sym c.find.ensures.value) ∙ sym c.is_some.ensures ∙ c.if-is_some.false in
    record {
      name = c.in_ok-name.name;
      place = c.in_ok-place.place;
      define = c.in_ok-end.ensures.ok c.args.first c.in_ok-place.ensures.ok;
      named = called_name c.args.tokens.now c.in_ok-place.place c.text-text.result.now c.in_ok-name.name c.in_ok-place.ensures.ok.called c.text-text.ensures c.in_ok-name.ensures;
      fresh = ap (list_any (same_name c.in_ok-name.name)) (sym c.requires.names) ∙ sym (found_some (same_name c.in_ok-name.name) c.args.names.now) ∙ absent;
      few = grind (arith, common_steps);
      added = c.in_ok-push.ensures.items;
    }
