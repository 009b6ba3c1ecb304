use Rattle.ir_check.proofs.Common.{◌∙◌, sym, refl, true_from_ne_false}
use Rattle.ir_check.proofs.EdgeLemmas.{unfit_entry, awaited_unfit, none_unfit}
use Rattle.ir_check.proofs.edges.is_unfit.Goals as goal

pub returns-then-not-meet_all-clause-unfit : goal.returns-then-not-meet_all-clause-unfit
returns-then-not-meet_all-clause-unfit c =
    (λ t. unfit_entry c.args.predecessors.now c.args.phi.now (rw c.as_slice.ensures at (c.meet_all.ensures.unfit c.if-not-meet_all.true c.args.predecessors.now (c.await_all.ensures.marked c.args.phi.now.of_type))), λ u. refl)

pub returns-clause-unfit : goal.returns-clause-unfit
returns-clause-unfit c =
    let marked = rw c.as_slice.ensures at (c.meet_all.ensures.fit c.if-not-meet_all.false c.args.predecessors.now (c.await_all.ensures.marked c.args.phi.now.of_type)) in (
      λ t. awaited_unfit c.args.predecessors.now c.args.phi.now c.meet_all.new.marks marked (sym c.has_awaited.ensures ∙ t),
      λ u. true_from_ne_false c.has_awaited.result (λ f. none_unfit c.args.predecessors.now c.args.phi.now c.meet_all.new.marks marked (sym c.has_awaited.ensures ∙ f) u),
    )
