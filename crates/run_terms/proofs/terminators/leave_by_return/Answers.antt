use Rattle.run_terms.proofs.Common.{◌∙◌, Bool, Some, None, ap, sym, refl, on_ok_weaker, returned_run, keeps_self}
use Rattle.unroll.specs.Layers.{Done}
use Rattle.run_terms.proofs.Moving.{leaves_to}
use Rattle.run_terms.proofs.Returning.{ending_valued, given_shaped, return_leaves}
use Rattle.run_terms.proofs.terminators.leave_by_return.Goals as goal

pub given-given-requires : goal.given-given-requires
given-given-requires c = c.requires.leaving.state.memory.count

pub end_return-requires-clause-alike : goal.end_return-requires-clause-alike
end_return-requires-clause-alike c = sym (ending_valued c.args.setting c.args.frontier.now c.requires.leaving.shape ∙ sym (rw c.in-None.is at c.requires.value))

pub end_return-requires-clause-given : goal.end_return-requires-clause-given
end_return-requires-clause-given c = rw c.given-given.ensures (given_shaped c.args.setting c.args.terms.now c.args.frontier.now c.args.leaving c.requires.leaving)

pub return_defined-requires-clause-value : goal.return_defined-requires-clause-value
return_defined-requires-clause-value c = sym (rw c.in-Some.is at c.requires.value)

pub return_operand-requires-clause-value : goal.return_operand-requires-clause-value
return_operand-requires-clause-value c = sym (rw c.in-Some.is at c.requires.value)

pub returns-in_ok-end_return-in-None-clause-leaves : goal.returns-in_ok-end_return-in-None-clause-leaves
returns-in_ok-end_return-in-None-clause-leaves c = rw c.in-None.is (return_leaves None (keeps_self c.args.terms.now) c.end_return.ensures.kept c.requires.leaving
    (rw c.given-given.ensures at c.in_ok-end_return-in-None.ensures.ends) (λ g at m sees held h. record { tally = h.tally; outcome = refl }))

pub returns-then-setting-clause-leaves : goal.returns-then-setting-clause-leaves
returns-then-setting-clause-leaves c = rw c.in-Some.is (on_ok_weaker c.return_defined.result (λ so. leaves_to so (λ g sees. sees) (λ g m.
    ap (λ (b : Bool). Done (returned_run b (Some c.in-Some.returned) g.tape m)) (sym c.if-setting.true))) c.return_defined.ensures.leaves)

pub returns-else-setting-clause-leaves : goal.returns-else-setting-clause-leaves
returns-else-setting-clause-leaves c = rw c.in-Some.is (on_ok_weaker c.return_operand.result (λ so. leaves_to so (λ g sees. sees) (λ g m.
    ap (λ (b : Bool). Done (returned_run b (Some c.in-Some.returned) g.tape m)) (sym c.if-setting.false))) c.return_operand.ensures.leaves)
