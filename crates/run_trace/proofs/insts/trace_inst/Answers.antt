use Rattle.run_trace.proofs.insts.trace_inst.Goals as goal

pub returns-clause-shown : goal.returns-clause-shown
returns-clause-shown c = (
  c.in_ok-shown.shown,
  c.in_ok-shown.ensures c.args.tracer.now.machine c.args.tape.now c.in_ok-before.ensures c.in_ok-goes.ensures.goes c.in_ok-goes.ensures.stays,
  c.in_ok-push.ensures.ok,
)
