use Rattle.run_trace.proofs.Common.{Bool, if◌then◌else◌, None, ap, ◌∙◌}
use Rattle.run_trace.proofs.Shown.{shows_inst}
use Rattle.run_trace.proofs.insts.step_after.Goals as goal

pub returns : goal.returns
returns c = λ m tape is acts stays f jumps.
    shows_inst f c.args.inst.now tape m c.args.machine.now c.args.before c.args.at c.args.k jumps c.args.goes c.value_after-result.result c.in_ok-taken.taken c.reason_if.result
    is acts stays c.value_after-result.ensures c.in_ok-taken.ensures
    (c.reason_if.ensures ∙ ap (λ (b : Bool). if b then c.args.before.cause else None) c.needs_reason-needs.ensures)
