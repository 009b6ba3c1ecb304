use Rattle.run_trace.proofs.Common.{◌≡◌, List, length, Some, refl, sym, ap, ◌∙◌, slice_get, slice_get_read, Phi}
use Rattle.run_trace.proofs.Leading.{phi_goes}
use Rattle.run_trace.proofs.phis.trace_phis.Goals as goal

pub loop-k-preserved : goal.loop-k-preserved
loop-k-preserved c =
    let xs = c.as_slice-phi-items.result.now in
    let there : slice_get c.args.block.now.phis c.loop-k.k ≡ Some c.phi-item.result =
    ap (λ (ys : List Phi). slice_get ys c.loop-k.k) (sym c.loop-k.invariant.phis) ∙ slice_get_read xs (length xs) c.loop-k.k c.phi-item.result refl c.loop-k-test.true c.phi-item.is in
    record {
      phis = c.loop-k.invariant.phis;
      goes = λ tape.
          phi_goes c.args.block.now c.args.at c.loop-k.k c.args.machine.now c.args.steps.now c.loop-k.steps c.push.new.self c.phi-item.result c.in_ok-phi_step.field-0 tape
          (c.loop-k.invariant.goes tape) there (c.in_ok-phi_step.ensures tape) c.in_ok-push.ensures.ok;
    }
