use Rattle.run_trace.proofs.Common.{◌≡◌, List, length, Some, None, refl, sym, ap, ◌∙◌, slice_get, slice_get_read, Inst, act}
use Rattle.run_trace.proofs.Leading.{inst_goes, inst_stops}
use Rattle.run_trace.proofs.insts.trace_insts.Goals as goal

pub returns-then-not-branch-clause-shown : goal.returns-then-not-branch-clause-shown
returns-then-not-branch-clause-shown c =
    let xs = c.as_slice-inst-items.result.now in
    let b = c.args.block.now in
    let there : slice_get b.insts c.loop-k.k ≡ Some c.inst-item.result =
    ap (λ (ys : List Inst). slice_get ys c.loop-k.k) (sym c.loop-k.invariant.insts) ∙ slice_get_read xs (length xs) c.loop-k.k c.inst-item.result refl c.loop-k-test.true c.inst-item.is in
    let stops : act c.inst-item.result c.args.tape.now c.loop-k.tracer.machine ≡ None = rw c.if-not-branch.true at c.in_ok-trace_inst.ensures.goes in
    let same = c.in_ok-trace_inst.ensures.stays c.if-not-branch.true in
    let step = c.in_ok-trace_inst.ensures.shown in
    rw same
    (inst_stops b c.args.at c.loop-k.k c.args.tracer.now.machine c.loop-k.tracer.machine c.args.tracer.now.steps c.loop-k.tracer.steps c.trace_inst.new.tracer.steps c.inst-item.result step.0 c.args.tape.now
    c.loop-k.invariant.goes there step.1 stops step.2)

pub loop-k-preserved : goal.loop-k-preserved
loop-k-preserved c =
    let xs = c.as_slice-inst-items.result.now in
    let b = c.args.block.now in
    let there : slice_get b.insts c.loop-k.k ≡ Some c.inst-item.result =
    ap (λ (ys : List Inst). slice_get ys c.loop-k.k) (sym c.loop-k.invariant.insts) ∙ slice_get_read xs (length xs) c.loop-k.k c.inst-item.result refl c.loop-k-test.true c.inst-item.is in
    let goes : act c.inst-item.result c.args.tape.now c.loop-k.tracer.machine ≡ Some c.trace_inst.new.tracer.machine = rw c.if-not-branch.false at c.in_ok-trace_inst.ensures.goes in
    let step = c.in_ok-trace_inst.ensures.shown in
    record {
      insts = c.loop-k.invariant.insts;
      goes =
          inst_goes b c.args.at c.loop-k.k c.args.tracer.now.machine c.loop-k.tracer.machine c.trace_inst.new.tracer.machine c.args.tracer.now.steps c.loop-k.tracer.steps c.trace_inst.new.tracer.steps
          c.inst-item.result step.0 c.args.tape.now c.loop-k.invariant.goes there step.1 goes step.2;
      turn = c.in_ok-trace_inst.ensures.turn ∙ c.loop-k.invariant.turn;
      index = c.in_ok-trace_inst.ensures.index ∙ c.loop-k.invariant.index;
    }
