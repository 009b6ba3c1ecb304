use Rattle.run_trace.proofs.Common.{Bool, subst, after_insts, Leads}
use Rattle.run_trace.proofs.Leading.{block_leads}
use Rattle.run_trace.proofs.blocks.trace_block.Goals as goal

pub returns-then-not-branch-clause-shown : goal.returns-then-not-branch-clause-shown
returns-then-not-branch-clause-shown c = λ first leads.
    let f = c.args.f.now in
    let tape = c.args.tape.now in
    let b = c.get-block.result.now in
    let started = block_leads f tape first b c.args.at c.args.jumps c.args.tracer.now.machine c.enter.new.machine c.args.tracer.now.steps c.trace_phis.new.steps c.get-block.ensures
    (c.in_ok-trace_phis.ensures tape) c.in_ok-enter.ensures.value leads in
    subst (λ (goes : Bool). Leads f tape first c.trace_insts.new.tracer.steps (after_insts goes b c.args.at c.trace_insts.new.tracer.machine c.args.jumps)) c.if-not-branch.true
    (c.in_ok-trace_insts.ensures.shown f first c.args.jumps c.get-block.ensures started)

pub returns-clause-shown : goal.returns-clause-shown
returns-clause-shown c = λ first leads.
    let f = c.args.f.now in
    let tape = c.args.tape.now in
    let b = c.get-block.result.now in
    let started = block_leads f tape first b c.args.at c.args.jumps c.args.tracer.now.machine c.enter.new.machine c.args.tracer.now.steps c.trace_phis.new.steps c.get-block.ensures
    (c.in_ok-trace_phis.ensures tape) c.in_ok-enter.ensures.value leads in
    let acted = subst (λ (goes : Bool). Leads f tape first c.trace_insts.new.tracer.steps (after_insts goes b c.args.at c.trace_insts.new.tracer.machine c.args.jumps)) c.if-not-branch.false
    (c.in_ok-trace_insts.ensures.shown f first c.args.jumps c.get-block.ensures started) in
    c.in_ok-next.ensures.shown first c.get-block.ensures acted
