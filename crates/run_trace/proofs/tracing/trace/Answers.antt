use Rattle.run_trace.proofs.Common.{length, ap, subst, ◌∙◌, Run, left_by, Done, first_state, Leads}
use Rattle.run_trace.proofs.Whole.{leads_to_run}
use Rattle.run_trace.proofs.tracing.trace.Goals as goal

pub returns : goal.returns
returns c =
    let f = c.args.f.now in
    let bounds = c.args.bounds.now in
    let input = c.args.input.now in
    let tape = c.args.tape.now in
    let traced = c.trace_call.new.tracer in
    let same = leads_to_run f bounds input tape traced.steps (left_by c.in_ok-ending.ending traced.machine) c.in_ok-ending.ensures in
    record {
      steps = rw c.trace_of.ensures.steps (subst (λ (r : Run). Leads f tape (first_state f bounds input) traced.steps (Done r)) same c.in_ok-ending.ensures);
      outcome = c.trace_of.ensures.outcome ∙ ap (λ (r : Run). r.outcome) same;
      read = c.trace_of.ensures.read ∙ ap (λ (r : Run). length r.taken) same;
    }
