use Rattle.run_trace.proofs.Common.{Some, refl, sym, ap, ◌∙◌, Value}
use Rattle.run_trace.proofs.arguments.argument_step.Goals as goal

pub returns : goal.returns
returns c = λ tape m others turn f jumps.
    record {
      block = refl;
      turn = sym turn;
      site = refl;
      operands = c.in_ok-one_value.ensures;
      result = ap (λ (v : Value). Some v) c.argument_value.ensures;
      taken = c.from_vec.ensures ∙ c.new.ensures.items;
      to = refl;
      location = refl;
      reason = c.argument_reason.ensures f tape 0 c.args.k jumps m others;
    }
