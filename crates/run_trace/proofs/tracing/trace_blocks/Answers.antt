use Rattle.run_trace.proofs.Common.{◌≤◌, length, arith}
use Rattle.run_trace.proofs.Leading.{missing_leads}
use Rattle.run_trace.proofs.tracing.trace_blocks.Goals as goal

pub returns : goal.returns
returns c = λ first leads.
    let past : length c.args.f.now.blocks ≤ c.loop-at.at = omega arith in
    missing_leads c.args.f.now c.args.tape.now first c.loop-at.tracer.steps c.push.new.self c.loop-at.at c.loop-at.jumps c.loop-at.tracer.machine c.missing_step-missing.result
    past (c.loop-at.invariant.leads first leads) (c.missing_step-missing.ensures c.args.tape.now) c.in_ok-push.ensures.ok
