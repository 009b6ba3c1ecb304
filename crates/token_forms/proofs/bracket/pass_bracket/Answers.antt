use Rattle.token_forms.proofs.Common.{Some, None, Bool, cond, ap, ◌∙◌, arith}
use Rattle.token_forms.proofs.Loops.{closed_more, closed_done, closed_stops, closed_ends, first_and_others}
use Rattle.token_forms.proofs.bracket.pass_bracket.Goals as goal

pub returns-in_default : goal.returns-in_default
returns-in_default c =
    closed_ends c.loop-brackets.brackets c.loop-brackets.rest.now _ (λ e. absurd (cc (c.loop-brackets-test.true, c.is_empty.ensures.1 e))) (omega arith) c.loop-brackets.invariant

pub returns-then-not-branch : goal.returns-then-not-branch
returns-then-not-branch c =
    let split = first_and_others c.loop-brackets.rest.now c.first-item.result (omega arith) c.first-item.is in
    closed_stops c.loop-brackets.brackets c.loop-brackets.rest.now c.first-item.result _ _ (λ e. absurd (cc (c.loop-brackets-test.true, c.is_empty.ensures.1 e))) split
    (c.in_ok-pass.ensures ∙ ap (λ (b : Bool). cond b (Some c.pass.new.self) None) c.if-not-branch.true) c.loop-brackets.invariant

pub loop-brackets-preserved : goal.loop-brackets-preserved
loop-brackets-preserved c =
    let split = first_and_others c.loop-brackets.rest.now c.first-item.result (omega arith) c.first-item.is in
    closed_more c.loop-brackets.brackets c.pass.new.self c.loop-brackets.rest.now c.first-item.result _ _ (λ e. absurd (cc (c.loop-brackets-test.true, c.is_empty.ensures.1 e))) split
    (c.in_ok-pass.ensures ∙ ap (λ (b : Bool). cond b (Some c.pass.new.self) None) c.if-not-branch.false) c.loop-brackets.invariant

pub returns : goal.returns
returns c = closed_done c.loop-brackets.brackets c.loop-brackets.rest.now _ (c.is_empty.ensures.0 c.loop-brackets-test.false) c.loop-brackets.invariant
