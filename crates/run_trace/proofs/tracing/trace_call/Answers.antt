use Rattle.run_trace.proofs.Common.{Bool, if◌then◌else◌, refl, sym, subst, Ub, ended, Phis, At, Done, first_state, Leads, position}
use Rattle.run_trace.proofs.Leading.{call_leads}
use Rattle.run_trace.proofs.tracing.trace_call.Goals as goal

pub returns-then-not-goes : goal.returns-then-not-goes
returns-then-not-goes c =
    let f = c.args.f.now in
    let bounds = c.args.bounds.now in
    let input = c.args.input.now in
    let tape = c.args.tape.now in
    let m = c.args.tracer.now.machine in
    let first = first_state f bounds input in
    let started = call_leads f bounds input tape c.args.tracer.now.steps c.as_slice-2.result.now m c.requires.steps c.requires.machine c.as_slice-2.ensures in
    subst (λ (goes : Bool). Leads f tape first c.trace_arguments.new.steps (if goes then At Phis (position 0 0 bounds.turns m) else Done (ended Ub m))) c.if-not-goes.true
    (c.in_ok-goes.ensures f tape first bounds.turns m (sym c.as_slice.ensures) refl started)

pub returns : goal.returns
returns c =
    let f = c.args.f.now in
    let bounds = c.args.bounds.now in
    let input = c.args.input.now in
    let tape = c.args.tape.now in
    let m = c.args.tracer.now.machine in
    let first = first_state f bounds input in
    let started = call_leads f bounds input tape c.args.tracer.now.steps c.as_slice-2.result.now m c.requires.steps c.requires.machine c.as_slice-2.ensures in
    c.in_ok-ending.ensures first
    (subst (λ (goes : Bool). Leads f tape first c.trace_arguments.new.steps (if goes then At Phis (position 0 0 bounds.turns m) else Done (ended Ub m))) c.if-not-goes.false
    (c.in_ok-goes.ensures f tape first bounds.turns m (sym c.as_slice.ensures) refl started))
