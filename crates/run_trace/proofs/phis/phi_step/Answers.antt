use Rattle.run_trace.proofs.Common.{◌≡◌, List, Some, refl, ap, ◌∙◌, Value, phi_operand, values_of}
use Rattle.run_trace.proofs.phis.phi_step.Goals as goal

pub returns : goal.returns
returns c = λ tape f jumps.
    let m = c.args.machine.now in
    let read : c.in_ok-values.values ≡ values_of m.registers (phi_operand m c.args.phi.now) =
    c.in_ok-values.ensures ∙ ap (λ (rs : List Value). values_of rs c.as_slice-2.result.now) c.as_slice.ensures ∙ ap (values_of m.registers) (c.as_slice-2.ensures ∙ c.in_ok-operands.ensures) in
    record {
      block = refl;
      turn = refl;
      site = refl;
      operands = read;
      result = ap (λ (v : Value). Some v) (c.value_read-value.ensures m c.args.phi.now (c.as_slice-3.ensures ∙ read));
      taken = c.from_vec.ensures ∙ c.new.ensures.items;
      to = refl;
      location = refl;
      reason = c.phi_reason.ensures f tape c.args.at c.args.k jumps;
    }
